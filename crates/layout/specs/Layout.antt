-- A record's layout, for reading and for writing: its fields in their order, and of each what it is in a record that is written. It is
-- a value of one inductive type with two meanings: the record's parser, and its bytes.
use Rattle.std.specs.Prelude.{ℕ, zero, suc, ◌*◌, ◌/◌, ◌%◌, List, [], ◌∷◌, ◌++◌}
use Rattle.parser.specs.Parser.{Parser, little_endian}
use Rattle.parser.specs.Parser as parser

-- R is the record that is written, A what was read
pub data Layout : Type 0 → Type 0 → Type 1 where
  -- nothing more
  done : {R A : Type 0} → A → Layout R A
  -- a little-endian number of n bytes, which is this one of the record
  number : {R A : Type 0} → ℕ → (R → ℕ) → (ℕ → Layout R A) → Layout R A
  -- n bytes, which are these of the record
  string : {R A : Type 0} → ℕ → (R → List ℕ) → (List ℕ → Layout R A) → Layout R A
  -- n bytes that are passed over, and written as zeros
  skipped : {R A : Type 0} → ℕ → Layout R A → Layout R A
  -- n bytes must be left
  ahead : {R A : Type 0} → ℕ → Layout R A → Layout R A
  -- n records of one layout, which are these of the record
  list : {R A S : Type 0} → ℕ → Layout S S → (R → List S) → (List S → Layout R A) → Layout R A

-- ---- a layout is a `do` block over these, as a parser is
infixl 1 ◌>>=◌
infixl 1 ◌>>◌
abbrev pub ◌>>=◌ : {R A B : Type 0} → Layout R A → (A → Layout R B) → Layout R B
◌>>=◌ (done a) f = f a
◌>>=◌ (number n get k) f = number n get (λ v. k v >>= f)
◌>>=◌ (string n get k) f = string n get (λ bs. k bs >>= f)
◌>>=◌ (skipped n l) f = skipped n (l >>= f)
◌>>=◌ (ahead n l) f = ahead n (l >>= f)
◌>>=◌ (list n l get k) f = list n l get (λ xs. k xs >>= f)

abbrev pub ◌>>◌ : {R A B : Type 0} → Layout R A → Layout R B → Layout R B
◌>>◌ l m = l >>= λ _. m

abbrev pub word : {R : Type 0} → ℕ → (R → ℕ) → Layout R ℕ
word n get = number n get (λ v. done v)

abbrev pub raw : {R : Type 0} → ℕ → (R → List ℕ) → Layout R (List ℕ)
raw n get = string n get (λ bs. done bs)

abbrev pub skip : {R : Type 0} → ℕ → Layout R (Unit {0})
skip n = skipped n (done tt)

abbrev pub repeat : {R S : Type 0} → ℕ → Layout S S → (R → List S) → Layout R (List S)
repeat n l get = list n l get (λ xs. done xs)

-- `check_count(n, size)`, then n records
abbrev pub counted : {R S : Type 0} → ℕ → ℕ → Layout S S → (R → List S) → Layout R (List S)
counted n size l get = ahead (n * size) (repeat n l get)

-- ---- the record's parser
abbrev pub reads : {R A : Type 0} → Layout R A → Parser A
reads (done a) = parser.done a
reads (number n get k) = parser.read n (λ bs. reads (k (little_endian bs)))
reads (string n get k) = parser.read n (λ bs. reads (k bs))
reads (skipped n l) = parser.read n (λ _. reads l)
reads (ahead n l) = parser.ahead n (reads l)
reads (list n l get k) = parser.◌>>=◌ (parser.repeat n (reads l)) (λ xs. reads (k xs))

-- ---- the record's bytes
-- the n bytes of a number, little-endian
unfoldable pub le_bytes : ℕ → ℕ → List ℕ
le_bytes zero x = []
le_bytes (suc n) x = x % 256 ∷ le_bytes n (x / 256)

-- the strings of a list's elements, one after the other
abbrev pub concat : {S : Type 0} → (S → List ℕ) → List S → List ℕ
concat f [] = []
concat f (x ∷ xs) = f x ++ concat f xs

abbrev pub written : {R A : Type 0} → Layout R A → R → List ℕ
written (done a) r = []
written (number n get k) r = le_bytes n (get r) ++ written (k (get r)) r
written (string n get k) r = get r ++ written (k (get r)) r
written (skipped n l) r = le_bytes n 0 ++ written l r
written (ahead n l) r = written l r
written (list n l get k) r = concat (λ x. written l x) (get r) ++ written (k (get r)) r
