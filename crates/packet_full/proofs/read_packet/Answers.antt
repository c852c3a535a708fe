-- The stages decide, then the room for the chunks; then the lists are written, or refused; and then the chunks are written.
use mathlib.Core.Path.{◌≡◌, sym, ap, ◌∙◌}
use Rattle.refusal.specs.Outcome.{ok, on_ok}
use Rattle.refusal.specs.Number.{outcome_of}
use Rattle.std.proofs.lemmas.Result.{err_from_is_err_and}
use Rattle.lists.proofs.Left.{left_refused, left_same}
use Rattle.packet_record.specs.Packet.{contents_at}
use Rattle.packet_places.specs.Places.{find_places}
use Rattle.packet_full.specs.Internal.{found_chunks}
use Rattle.packet_full.proofs.Answers.{places_short, places_found, profile_there}
use Rattle.packet_full.proofs.WithChunks.{chunk_room, tested, has_chunks, no_chunk_room, lists_refused, all_written}
use Rattle.packet_full.proofs.read_packet.Goals as goal
use Rattle.packet_full.proofs.read_packet.Goals.{After-chunks_fit}

found : (k : After-chunks_fit) → let p = k.in_ok-places.places in ok (p, contents_at k.args.run.now p) ≡ find_places k.args.at k.args.run.now
found k = sym (ap (λ r. on_ok (λ p. (p, contents_at k.args.run.now p)) (outcome_of r)) k.in_ok-places.was) ∙ k.find_places.ensures

-- what the test says
test : (k : After-chunks_fit) → let a = k.args in
    k.chunks_fit.result ≡ chunk_room (found_chunks k.in_ok-places.places.profile a.run.now) a.bins.now a.counts.now a.fudges.now a.signal.now
test k =
    let a = k.args in
    tested k.in_ok-places.places.profile a.run.now a.bins.now a.counts.now a.fudges.now a.signal.now (profile_there a.run.now a.at (found k)) k.chunks_fit.ensures

pub write_profile-requires : goal.write_profile-requires
write_profile-requires c =
    let k = (goal.at.write_profile-requires c).After-chunks_fit in
    has_chunks c.in_ok-places.places.profile _ _ _ _ _ (profile_there c.args.run.now c.args.at (found k)) (sym (test k) ∙ c.if-not-chunks_fit.false)

pub returns-in_err-places : goal.returns-in_err-places
returns-in_err-places c =
    let s = c.args.run.now in
    let p = err_from_is_err_and c.from_residual.result c.from_residual.ensures.1 in
    rw (p.1, p.2)
    (left_refused (places_short _ _ _ (sym (ap (λ r. on_ok (λ p. (p, contents_at s p)) (outcome_of r)) c.in_err-places.was) ∙ c.find_places.ensures)))

pub returns-in_err-packet : goal.returns-in_err-packet
returns-in_err-packet c =
    let k = (goal.at.returns-in_err-packet c).After-chunks_fit in
    let p = err_from_is_err_and c.from_residual-in_err-packet.result c.from_residual-in_err-packet.ensures.1 in
    rw (p.1, p.2)
    (left_same (places_found _ _ _ (found k))
    (lists_refused _ _ (found_chunks c.in_ok-places.places.profile c.args.run.now) _ _ _ _ _ _ _ _ (rw c.in_err-packet.was at c.write_packet.ensures)))

pub returns : goal.returns
returns c =
    let k = (goal.at.returns c).After-chunks_fit in
    left_same (places_found _ _ _ (found k))
    (all_written _ _ (found_chunks c.in_ok-places.places.profile c.args.run.now) _ _ _ _ _ _ _ _ (sym (test k) ∙ c.if-not-chunks_fit.false) (rw c.in_ok-packet.was at c.write_packet.ensures) c.write_profile.ensures)

pub returns-then-not-chunks_fit : goal.returns-then-not-chunks_fit
returns-then-not-chunks_fit c =
    let k = (goal.at.returns-then-not-chunks_fit c).After-chunks_fit in
    left_same (places_found _ _ _ (found k))
    (no_chunk_room _ _ (found_chunks c.in_ok-places.places.profile c.args.run.now) _ _ _ _ _ _ _ _ (sym (test k) ∙ c.if-not-chunks_fit.true))
