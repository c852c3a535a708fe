-- Writing a record (document 02, L3).
use Rattle.std.specs.Prelude.{Bool, cond, []}
use Rattle.refusal.specs.Outcome.{Outcome, refused}

-- the outcome of writing, or refusal 10 where the layout does not hold the record: it comes before 8
abbrev pub if_held : {A : Type 0} → Bool → Outcome A → Outcome A
if_held held o = cond held o (refused 10 [])
