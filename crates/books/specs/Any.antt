-- A test that holds of some element of a list, beside what std has of it.
use Rattle.std.specs.Prelude.{◌≡◌, Bool, true, false, ◌||◌, List, [], ◌∷◌, ◌++◌, filter, refl}
use Rattle.std.proofs.Common.{sym, ◌∙◌}
use Rattle.std.specs.List.{list_any}
use Rattle.std.proofs.lemmas.List.Folds.{Any-from_list_any, list_any-from_Any, list_any-append}
use Rattle.std.proofs.lemmas.Map.Views.{any-filter_same}
use Rattle.semantics.proofs.Tests.{false_is_not_true}
use Rattle.books.specs.Tests.{or_nothing}

-- where a test implies another, and holds of some element, so does the other
pub any_implies : {X : Type 0} (s t : X → Bool) → ((x : X) → s x ≡ true → t x ≡ true) → (xs : List X) → list_any s xs ≡ true → list_any t xs ≡ true
any_implies s t f xs h =
    let (k, x, low, at, p) = Any-from_list_any s xs h in
    list_any-from_Any t xs (k, x, low, at, f x p)

-- an element of which the test is false may be added
pub any_push : {X : Type 0} (test : X → Bool) (xs : List X) (x : X) → test x ≡ false → list_any test (xs ++ x ∷ []) ≡ list_any test xs
any_push test xs x h = list_any-append test xs (x ∷ []) ∙ or_nothing (list_any test xs) (test x || false) (rw h refl)

-- and elements of which it is false may be taken out
pub any_kept : {X : Type 0} (test keep : X → Bool) → ((x : X) → keep x ≡ false → test x ≡ false) → (xs : List X) → list_any test (filter keep xs) ≡ list_any test xs
any_kept {X} test keep f xs = any-filter_same test keep true (λ x h. kept x (keep x) refl h) xs
  where
    kept : (x : X) (k : Bool) → keep x ≡ k → test x ≡ true → k ≡ true
    kept x true e h = refl
    kept x false e h = false_is_not_true (sym (f x e) ∙ h)
