-- Checks that compute, and what they say.
use Rattle.std.proofs.Common.{◌≡◌, ℕ, zero, suc, ◌<◌, Bool, true, not, ◌||◌, eqb, ltb, leb, ◌⊎◌, List, [], ◌∷◌, sym, refl, ◌∙◌, subst, inl, inr, arith, ltb-true, eq-eqb, eqb-true, leb-true}
use mathlib.Core.Path.{fun_ext}
use Rattle.std.specs.List.{ContainsAt, list_all, list_any}
use Rattle.std.proofs.lemmas.Bool.{cases_lt, and_parts, and_from, or_cases, or_left, or_right, false_from_ne_true, agree_below, agree_below_at}
use Rattle.std.proofs.lemmas.List.Sums.{AllPass-from_list_all}
use Rattle.std.proofs.lemmas.List.Folds.{Any-from_list_any}
use Rattle.std.proofs.lemmas.List.Elements.{All-contains, Contains-from_at, at_from_Contains}
use Rattle.rulings.specs.Points.{Points, Part, listed}
use Rattle.semantics.specs.Meaning.{Meaning, Lawful}
use Rattle.semantics.specs.Closure.{IsClosure}
use Rattle.semantics.specs.Chapters.{Fit, Sixteen}
use Rattle.semantics.proofs.Tests.{false_is_not_true, implies_use}
use Rattle.semantics.proofs.Closures.{closure, is_closure, closure_inside}
use Rattle.books.specs.Entries.{every_below}
use Rattle.books.specs.EntriesLemmas.{every_below_use}
use Rattle.worked.specs.Books.{chapters}

-- what a test of every element says of one, and an element that a test finds
module _ {X : Type 0} (test : X → Bool) (xs : List X) where
  pub all_use : list_all test xs ≡ true → (x : X) → ContainsAt xs x → test x ≡ true
  all_use h x q = All-contains (λ y. test y ≡ true) xs x (AllPass-from_list_all test xs h) (Contains-from_at xs x q)

  pub any_has : list_any test xs ≡ true → (x : X) × ContainsAt xs x × (test x ≡ true)
  any_has h =
      let (k, x, low, at, t) = Any-from_list_any test xs h in
      (x, at_from_Contains xs x (k, low, at), t)

-- of the points of a list
pub all_listed : (x : Points) (ps : List ℕ) → list_all x ps ≡ true → Part (listed ps) x
all_listed x [] h b q = false_is_not_true q
all_listed x (p ∷ ps) h b q = go (and_parts _ _ h) (or_cases (eqb b p) (listed ps b) q) (all_listed x ps)
  where
    go : (x p ≡ true) × (list_all x ps ≡ true) → (eqb b p ≡ true) ⊎ (listed ps b ≡ true) → (list_all x ps ≡ true → Part (listed ps) x) → x b ≡ true
    go r (inl e) ih = subst (λ (c : ℕ). x c ≡ true) (sym (eqb-true b p e)) r.0
    go r (inr l) ih = ih r.1 b l

pub listed_all : (x : Points) (ps : List ℕ) → Part (listed ps) x → list_all x ps ≡ true
listed_all x [] h = refl
listed_all x (p ∷ ps) h =
    and_from _ _ (h p (or_left (eqb p p) (listed ps p) (eq-eqb p p refl)))
    (listed_all x ps (λ b q. h b (or_right (eqb b p) (listed ps b) q)))

-- every point is below n
abbrev pub Within : ℕ → Points → Type 0
Within n x = (a : ℕ) → x a ≡ true → a < n

abbrev pub within : ℕ → List ℕ → Bool
within n ps = list_all (λ b. ltb b n) ps

pub within_use : (n : ℕ) (ps : List ℕ) → within n ps ≡ true → Within n (listed ps)
within_use n ps h a q = ltb-true a n (all_listed (λ b. ltb b n) ps h a q)

-- two sets of points below n that agree there
pub agree_all : (n : ℕ) (x y : Points) → Within n x → Within n y → agree_below x y n ≡ true → x ≡ y
agree_all n x y p q h =
    fun_ext (λ a. elim (cases_lt a n) [
      | inl l ↦ agree_below_at x y n a h l
      | inr l ↦ false_from_ne_true (x a) (λ e. let i = p a e in omega arith) ∙ sym (false_from_ne_true (y a) (λ e. let i = q a e in omega arith))
    ])

-- X is the closure of y
abbrev pub closes : Meaning → Points → Points → Bool
closes m y X = agree_below (closure m y) X m.size

pub closes_use : (m : Meaning) → Lawful m → (y X : Points) → Within m.size X → closes m y X ≡ true → IsClosure m y X
closes_use m l y X p h =
    subst (IsClosure m y)
    (agree_all m.size (closure m y) X (closure_inside m l y (closure m y) (is_closure m l y)) p h)
    (is_closure m l y)

-- the chapters are below 16
pub sixteen_use : (ks : List ℕ) → list_all (λ k. ltb k 16) ks ≡ true → Sixteen (chapters ks)
sixteen_use [] h a = omega arith
sixteen_use (k ∷ ks) h zero = ltb-true k 16 (and_parts _ _ h).0
sixteen_use (k ∷ ks) h (suc a) = sixteen_use ks (and_parts (ltb k 16) _ h).1 a

-- the chapters fit
abbrev pub fits : Meaning → (ℕ → ℕ) → Bool
fits m ch = every_below m.size (λ a. every_below m.size (λ b. not (m.reads a b) || leb (ch b) (ch a)))

pub fits_use : (m : Meaning) → Lawful m → (ch : ℕ → ℕ) → fits m ch ≡ true → Fit m ch
fits_use m l ch h a b r =
    let (p, q) = l.reads_inside a b r in
    let row = every_below_use m.size (λ c. every_below m.size (λ d. not (m.reads c d) || leb (ch d) (ch c))) h a p in
    leb-true (ch b) (ch a) (implies_use _ _ (every_below_use m.size (λ d. not (m.reads a d) || leb (ch d) (ch a)) row b q) r)
