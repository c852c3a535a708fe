-- Demand 3 for the texts of the header and of a scan: a text that is not `X k 1 part` is also the text for all longer bytes,
-- with every element of the lent slice, and `X k 1 part` is written only if there are longer bytes on which the text is another.
use Rattle.std.specs.Prelude.{Ok, Err, Result}
use mathlib.Core.Path.{◌≡◌, refl, sym, ap, ◌∙◌}
use Prim.Native.Nat.{ℕ, ◌+◌, ◌^◌, ◌<◌}
use native.Mathlib.Omega.{arith}
use mathlib.Core.List.{List, [], ◌∷◌, ◌++◌, append_assoc}
use lib.Dec.{lit<}
use lib.ListN.{length, drop}
use lib.Seq.{drop-append_seam}
use Rattle.refusal.specs.Outcome.{Outcome, ok, refused, ran_out, on_ok}
use Rattle.refusal.specs.Number.{part_number, number, carried, outcome_of_refusal, outcome_of}
use Rattle.refusal.specs.declared.Part.{Part}
use Rattle.refusal.specs.declared.Part.TheVariants.{Header, Index, Event, Data}
use Rattle.refusal.specs.declared.Refusal.{Refusal}
use Rattle.refusal.specs.declared.Refusal.TheVariants.{Short, UnrecognizedScanRecord, InvalidPrecursorMz, BodyTooShort, FlatWord, TooManyScans, NoSuchScan, NoRoom, MassOutOfRange, NotHeld}
use Rattle.refusal.proofs.Outcomes.{ok_not_refused}
use Rattle.refusal.proofs.OneAnswer.{answer_one}
use Rattle.lists.specs.Left.{LeftList}
use Rattle.parser.specs.LongerBytes.{Bytes, Held, PrefixProperty, CompletesOn}
use Rattle.text.specs.Text.{ascii}
use Rattle.listing_lines.specs.Lines.{decimal, part_in, refused_line, tray_line, scan_lines}
use Rattle.listing_lines.proofs.Fields.{first_field}
use Rattle.tray_header.specs.Header.{read_tray_header}
use Rattle.tray_header.specs.declared.TrayHeader.{TrayHeader}
use Rattle.tray_header.proofs.Found.{Words}
use Rattle.tray_header.proofs.LongerBytes.{tray_header_prefix, tray_header_completes}
use Rattle.tray_scan.specs.declared.Scan.{Scan}
use Rattle.tray_scan.specs.Scan.{WrittenScan, format_in, scan_at, end_in, place_or_end}
use Rattle.tray_scan.specs.declared.Scan.{Scan}
use Rattle.tray_scan.proofs.LongerBytes.{AtNear, scan_at_prefix, scan_at_names, scan_at_completes, next_stays}
use Rattle.listing_tray.specs.Listing.{capacities, scan_text, header_text}
use Rattle.listing_tray.specs.declared.ListedScan.{ListedScan}

-- ---- a refusal's line says which refusal it is
-- number and part, and what stands between them
tail : ℕ → List ℕ → List ℕ
tail n carries = decimal n ++ (ascii " " ++ (decimal (part_in n carries) ++ ascii "\n"))

-- only a refusal 1 has a part
short_is : (r : Refusal) {p : ℕ} → number r ≡ 1 → part_in (number r) (carried r) ≡ p → carried r ≡ p ∷ []
short_is (Short part) h e = cc
short_is UnrecognizedScanRecord h e = absurd (omega arith)
short_is (InvalidPrecursorMz place bits) h e = absurd (omega arith)
short_is BodyTooShort h e = absurd (omega arith)
short_is FlatWord h e = absurd (omega arith)
short_is TooManyScans h e = absurd (omega arith)
short_is NoSuchScan h e = absurd (omega arith)
short_is NoRoom h e = absurd (omega arith)
short_is MassOutOfRange h e = absurd (omega arith)
short_is NotHeld h e = absurd (omega arith)

-- `X k 1 part`
abbrev pub ran_out_line : ℕ → Part → List ℕ
ran_out_line k part = refused_line k 1 (part_number part ∷ [])

one_digit : (part : Part) → part_number part < 10
one_digit Header = lit< tt
one_digit Index = lit< tt
one_digit Event = lit< tt
one_digit Data = lit< tt

module _ (k : ℕ) where
  -- after the number of the scan
  head : List ℕ
  head = ascii "X" ++ (ascii " " ++ (decimal k ++ ascii " "))

  line_tail : (n : ℕ) (carries : List ℕ) → drop (length head) (refused_line k n carries) ≡ tail n carries
  unfolding head tail
  line_tail n carries =
      let e : refused_line k n carries ≡ head ++ tail n carries = simp append_assoc in
      rw e (drop-append_seam head (tail n carries))

  line_says : (n : ℕ) (carries : List ℕ) (part : Part) → refused_line k n carries ≡ ran_out_line k part → (n ≡ 1) × (part_in n carries ≡ part_number part)
  unfolding tail
  line_says n carries part h =
      let same = sym (line_tail n carries) ∙ ap (drop (length head)) h ∙ line_tail 1 (part_number part ∷ []) in
      let f = first_field n 1 32 (decimal (part_in n carries) ++ ascii "\n") (decimal (part_number part) ++ ascii "\n") (lit< tt) (lit< tt) same in
      (f.0, (first_field (part_in n carries) (part_number part) 10 [] [] (one_digit part) (lit< tt) f.1).0)

  line_one : {A : Type 0} (r : Refusal) (part : Part) → refused_line k (number r) (carried r) ≡ ran_out_line k part → outcome_of_refusal {A = A} r ≡ ran_out (part_number part)
  line_one r part h = let w = line_says (number r) (carried r) part h in rw (w.0, short_is r w.0 w.1)

-- ---- the text of any outcome whose refusals have such lines
-- the outcome is what an answer tells
abbrev OneAnswer : {A : Type 0} → Outcome A → Type 0
OneAnswer (ok a) = Unit {0}
OneAnswer (refused n carries) = (r : Refusal) × (n ≡ number r) × (carries ≡ carried r)

module _ {A : Type 0} (k : ℕ) (text : Outcome A → List ℕ) (line : (n : ℕ) (carries : List ℕ) → text (refused n carries) ≡ refused_line k n carries)
    (value : (a : A) (part : Part) → text (ok a) ≡ ran_out_line k part → ⊥) where
  text_one : (o : Outcome A) (part : Part) → OneAnswer o → text o ≡ ran_out_line k part → o ≡ ran_out (part_number part)
  text_one (ok a) part t h = absurd (value a part h)
  text_one (refused n carries) part t h = rw (t.1, t.2) (line_one k t.0 part (rw (t.1, t.2) at (sym (line n carries) ∙ h)))

  module _ (f : List ℕ → Outcome A) where
    text_stays : PrefixProperty f → (s t xs ys zs : List ℕ) (r q : Result ℕ Refusal) → LeftList (text (f s)) xs r ys → LeftList (text (f (s ++ t))) xs q zs
        → ((part : ℕ) → text (f s) ≡ refused_line k 1 (part ∷ []) → ⊥) → (q ≡ r) × (zs ≡ ys)
    text_stays prefix s t xs ys zs r q l m never =
        let same : text (f (s ++ t)) ≡ text (f s) = ap text (prefix s t (λ part h. never part (ap text h ∙ line 1 (part ∷ [])))) in
        let n = rw same at m in
        (answer_one q r (n.answered ∙ sym l.answered), n.stands ∙ sym l.stands)

    text_completes : (part : Part) (s : List ℕ) → CompletesOn (part_number part) f s → OneAnswer (f s) → text (f s) ≡ ran_out_line k part
        → (t : List ℕ) × Held (s ++ t) × (OneAnswer (f (s ++ t)) → text (f (s ++ t)) ≡ ran_out_line k part → ⊥)
    text_completes part s c e h =
        let w = c (text_one (f s) part e h) in
        (w.0, w.1, λ g i. w.2 (text_one (f (s ++ w.0)) part g i))

-- ---- the text of a header that `read_tray_header` answered
abbrev pub ReadsHeader : List ℕ → Result TrayHeader Refusal → Type 0
ReadsHeader s x = outcome_of x ≡ read_tray_header s

header_outcome : (x : Result TrayHeader Refusal) (o : Outcome TrayHeader) → outcome_of x ≡ o → OneAnswer o
header_outcome x (ok h) e = tt
header_outcome (Ok h) (refused n carries) e = ok_not_refused e
header_outcome (Err r) (refused n carries) e = (r, (cc), (cc))

header_value : (h : TrayHeader) (part : Part) → header_text (ok h) ≡ ran_out_line 0 part → ⊥
unfolding tray_line
header_value h part e = let n : ◌≡◌ {A = ℕ} 84 88 = cc in omega arith

pub list_header_stays : (s t xs ys zs : List ℕ) (x y : Result TrayHeader Refusal) (r q : Result ℕ Refusal) → ReadsHeader s x → ReadsHeader (s ++ t) y
    → LeftList (header_text (outcome_of x)) xs r ys → LeftList (header_text (outcome_of y)) xs q zs
    → ((part : ℕ) → header_text (outcome_of x) ≡ refused_line 0 1 (part ∷ []) → ⊥) → (q ≡ r) × (zs ≡ ys)
list_header_stays s t xs ys zs x y r q d e l m never =
    text_stays 0 header_text (λ _ _. refl) header_value read_tray_header tray_header_prefix s t xs ys zs r q (rw (← d) l) (rw (← e) m) (λ part h. never part (ap header_text d ∙ h))

pub list_header_completes : (s : List ℕ) (x : Result TrayHeader Refusal) → Bytes s → length s < 2 ^ 62 → ReadsHeader s x → header_text (outcome_of x) ≡ ran_out_line 0 Header
    → (t : List ℕ) × Held (s ++ t) × ((y : Result TrayHeader Refusal) → ReadsHeader (s ++ t) y → header_text (outcome_of y) ≡ ran_out_line 0 Header → ⊥)
list_header_completes s x is_bytes few e h =
    let w = text_completes 0 header_text (λ _ _. refl) header_value read_tray_header Header s (tray_header_completes s is_bytes few (lit< tt)) (header_outcome x _ e) (ap header_text (sym e) ∙ h) in
    (w.0, w.1, λ y f i. w.2 (header_outcome y _ f) (ap header_text (sym f) ∙ i))

-- ---- the text of scan k, whose event stands at a place
scan_outcome : (x : Result Scan Refusal) (o : Outcome WrittenScan) → outcome_of x ≡ on_ok (λ (v : WrittenScan). v.0) o → OneAnswer o
scan_outcome x (ok v) e = tt
scan_outcome (Ok v) (refused n carries) e = ok_not_refused e
scan_outcome (Err r) (refused n carries) e = (r, (cc), (cc))

abbrev listed_scan : Result ℕ Refusal → ℕ → ListedScan
listed_scan written next = record { written = written; next = next }

module _ (h : TrayHeader) (k at : ℕ) where
  abbrev pub scan_text_on : List ℕ → List ℕ
  scan_text_on s = scan_text (format_in h) k (scan_at capacities h k at s)

  -- what `scan_at` answers, and what `list_scan` does
  abbrev pub Reads : List ℕ → Result Scan Refusal → Type 0
  Reads s x = outcome_of x ≡ on_ok (λ (v : WrittenScan). v.0) (scan_at capacities h k at s)

  abbrev pub Lists : List ℕ → List ℕ → ListedScan → List ℕ → Type 0
  Lists s xs r ys = LeftList (scan_text_on s) xs r.written ys × (r.next ≡ place_or_end (end_in h at s))

  scan_value : (v : WrittenScan) (part : Part) → scan_text (format_in h) k (ok v) ≡ ran_out_line k part → ⊥
  unfolding scan_lines
  scan_value v part e = let n : ◌≡◌ {A = ℕ} 83 88 = cc in omega arith

  pub list_scan_stays : (s t xs ys zs : List ℕ) (r q : ListedScan) → Lists s xs r ys → Lists (s ++ t) xs q zs
      → ((part : ℕ) → scan_text_on s ≡ refused_line k 1 (part ∷ []) → ⊥) → (q ≡ r) × (zs ≡ ys)
  list_scan_stays s t xs ys zs r q l m never =
      let both = text_stays k (scan_text (format_in h) k) (λ _ _. refl) scan_value (scan_at capacities h k at) (scan_at_prefix h k at capacities) s t xs ys zs r.written q.written l.0 m.0 never in
      let next : q.next ≡ r.next = m.1 ∙ ap place_or_end (next_stays h k at capacities s t (λ part e. never part (ap (scan_text (format_in h) k) e))) ∙ sym l.1 in
      (ap (λ x. listed_scan x q.next) both.0 ∙ ap (listed_scan r.written) next, both.1)

  -- the header's part is named by no text: it is read before
  pub list_scan_completes : Words h → k < 2 ^ 32 → (part : Part) → (s : List ℕ) (x : Result Scan Refusal) → Bytes s → length s < 2 ^ 62
      → AtNear h k at (part_number part) s → Reads s x → scan_text_on s ≡ ran_out_line k part
      → (t : List ℕ) × Held (s ++ t) × ((y : Result Scan Refusal) → Reads (s ++ t) y → scan_text_on (s ++ t) ≡ ran_out_line k part → ⊥)
  list_scan_completes words small part s x is_bytes few near e i =
      let o = text_one k (scan_text (format_in h) k) (λ _ _. refl) scan_value (scan_at capacities h k at s) part (scan_outcome x (scan_at capacities h k at s) e) i in
      let p = scan_at_names h k at capacities s (part_number part) o in
      let w = text_completes k (scan_text (format_in h) k) (λ _ _. refl) scan_value (scan_at capacities h k at) part s (scan_at_completes h k at capacities words small (part_number part) p s is_bytes few near) (scan_outcome x (scan_at capacities h k at s) e) i in
      (w.0, w.1, λ y f. w.2 (scan_outcome y (scan_at capacities h k at (s ++ w.0)) f))
