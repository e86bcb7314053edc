-- The tests of an entry's conditions: of rulings they are containment and disjointness, and one that fails finds a point.
use Rattle.std.specs.Prelude.{◌≡◌, ℕ, zero, suc, Bool, true, false, not, ◌&&◌, ◌↔◌, refl}
use Rattle.std.proofs.Common.{sym}
use Rattle.rulings.specs.Points.{Points, Part, Disjoint}
use Rattle.rulings.specs.Rulings.{has}
use Rattle.rulings.specs.declared.ruling.Ruling.{Ruling}
use Rattle.semantics.proofs.Tests.{false_is_not_true, both_ways}
use Rattle.std.proofs.lemmas.Bool.{not-false, and_parts}
use Rattle.books.specs.Entries.{every_below, covers, avoids}
use Rattle.rulings.proofs.Bytes.{has_below}
use Rattle.books.specs.EntriesLemmas.{covers_use, covers_of, avoids_use, avoids_of}

-- an answer that is true exactly if p is part of x, or q disjoint from y, is that of the test
pub covers_is : (p : Ruling) (x : Points) (r : Bool) → (r ≡ true) ↔ Part (has p) x → r ≡ covers x (has p)
covers_is p x r h = both_ways r (covers x (has p)) (λ t. covers_of (has p) (has_below p) x (h.0 t)) (λ t. h.1 (covers_use (has p) (has_below p) x t))

pub avoids_is : (q : Ruling) (y : Points) (r : Bool) → (r ≡ true) ↔ Disjoint (has q) y → r ≡ avoids y (has q)
avoids_is q y r h = both_ways r (avoids y (has q)) (λ t. avoids_of (has q) (has_below q) y (h.0 t)) (λ t. h.1 (avoids_use (has q) (has_below q) y t))

-- where the test fails of some number, one is found
every_below_not : (n : ℕ) (test : ℕ → Bool) → every_below n test ≡ false → (b : ℕ) × (test b ≡ false)
unfolding every_below
every_below_not zero test h = false_is_not_true (sym h)
every_below_not (suc n) test h = go (test n) refl h (every_below_not n test)
  where
    go : (t : Bool) → test n ≡ t → t && every_below n test ≡ false → (every_below n test ≡ false → (b : ℕ) × (test b ≡ false)) → (b : ℕ) × (test b ≡ false)
    go true e q ih = ih q
    go false e q ih = (n, e)

-- a point that two sets share, where the one does not avoid the other
pub avoids_not : (p y : Points) → avoids y p ≡ false → (b : ℕ) × (p b ≡ true) × (y b ≡ true)
avoids_not p y h =
    let w = every_below_not 128 (λ c. not (p c && y c)) h in
    let q = and_parts _ _ (not-false (p w.0 && y w.0) w.1) in
    (w.0, q.0, q.1)
