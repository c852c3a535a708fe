use Rattle.listing_lines.proofs.+append_hexadecimal.Given as goal

abbrev pub decreases-append_hexadecimal : goal.decreases-append_hexadecimal
decreases-append_hexadecimal l = l.digits
