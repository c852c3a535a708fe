-- The terms' sentences on a channel list, on what `flatv66_event_channels` answers and leaves.
use Rattle.std.specs.Prelude.{◌≡◌, ◌⊎◌, true, false, ℕ, List, ◌++◌, length, Ok, Err, Result}
use Rattle.refusal.specs.declared.Refusal.TheVariants.{NoRoom}
use Rattle.refusal.specs.declared.Refusal.{Refusal}
use Rattle.lists.specs.Left.{fits, over_all, lengths}
use Rattle.srm_channels.specs.Channels.{channel_lists}
use Rattle.srm_channels.specs.declared.Channel.{Channel}

-- xs is lent. The list fits, and stands over the fronts; or it does not, and nothing is altered
abbrev pub ListAnswered : List (List ℕ) → List Channel → Result ℕ Refusal → List (List ℕ) → Type 0
ListAnswered xs list r ys = (fits (lengths (channel_lists list)) (lengths xs) ≡ true) × (r ≡ Ok (length list)) × (ys ≡ over_all (channel_lists list) xs)

abbrev pub ListRefused : List (List ℕ) → List Channel → Result ℕ Refusal → List (List ℕ) → Type 0
ListRefused xs list r ys = (fits (lengths (channel_lists list)) (lengths xs) ≡ false) × (r ≡ Err NoRoom) × (ys ≡ xs)

-- `list s` is the channel list of the bytes s, and `meets s r ys` says that on them the answer is r and the slices hold ys: on
-- longer bytes none or more channels are added at the list's end; a list is answered or refused; and refused once, it stays refused
pub record ListOnLongerBytes (xs : List (List ℕ)) (list : List ℕ → List Channel) (meets : List ℕ → Result ℕ Refusal → List (List ℕ) → Type 0) : Type 0 where
  pub extends : (s t : List ℕ) → (more : List Channel) × (list (s ++ t) ≡ list s ++ more)
  pub answers : (s : List ℕ) (r : Result ℕ Refusal) (ys : List (List ℕ)) → meets s r ys → ListAnswered xs (list s) r ys ⊎ ListRefused xs (list s) r ys
  pub refused : (s t : List ℕ) (q : Result ℕ Refusal) (ys zs : List (List ℕ)) → meets s (Err NoRoom) ys → meets (s ++ t) q zs → ListRefused xs (list (s ++ t)) q zs
