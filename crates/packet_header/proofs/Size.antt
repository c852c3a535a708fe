-- A header is of one size, so one test decides its answer.
use mathlib.Core.Path.{◌≡◌, ap, ◌∙◌}
use Prim.Native.Nat.{ℕ, ◌+◌, ◌≤◌, ◌<◌}
use mathlib.Core.List.{List}
use Rattle.refusal.specs.Outcome.{ok, refused, ran_out}
use Rattle.parser.specs.Parser.{parsed, remaining, parse}
use Rattle.parser.specs.Internal.{Sized, value}
use Rattle.parser.proofs.Records.{record_short, record_whole, sized_read}
use Rattle.parser.proofs.Answered.{found, RanOut, ran_out_lem}
use Rattle.packet_header.specs.Header.{header, read_packet_header}
use Rattle.packet_header.specs.declared.PacketHeader.{PacketHeader}

pub header_sized : Sized 40 header
unfolding header
header_sized = λ _ _ _ _ _ _ _ _ _ _. tt

module _ (s : List ℕ) (at : ℕ) where
  pub header_short : remaining s at < 40 → ran_out 4 ≡ read_packet_header at s
  unfolding read_packet_header
  header_short = record_short 4 at header (λ h _. ok h) 40 header_sized s

  pub header_whole : 40 ≤ remaining s at → {h : PacketHeader} → h ≡ value header s at 0 → ok h ≡ read_packet_header at s
  unfolding read_packet_header
  header_whole t e = record_whole 4 at header (λ h _. ok h) 40 header_sized s t (ap ok e)

  -- a header that was read stands there
  pub header_read : {h : PacketHeader} → ok h ≡ read_packet_header at s → (40 ≤ remaining s at) × (parse header s at ≡ parsed h (at + 40))
  unfolding read_packet_header
  header_read {h} e =
      let f = found 4 at header (λ (v : PacketHeader) _. v) s e in
      let w = sized_read 40 header header_sized s at f.there in
      (w.0, f.there ∙ cc (f.made, w.2))

  pub header_ran_out : {n : ℕ} {carries : List ℕ} → refused n carries ≡ read_packet_header at s → RanOut 4 header s at n carries
  unfolding read_packet_header
  header_ran_out e = ran_out_lem 4 at header (λ (v : PacketHeader) _. v) s e
