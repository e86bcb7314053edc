-- An array that a function of the index made: what each call gave, where no call changes the function.
use Rattle.std.proofs.Common.{◌≡◌, ℕ, zero, suc, ◌+◌, ◌<◌, ◌≤◌, List, slice_index_or, subst, sym, inl, inr, arith}
use Rattle.std.proofs.lemmas.Bool.{cases_eq}
use Rattle.std.specs.Array.{IsFromFnResultFrom}
use Rattle.std.specs.Fn.{Called}
use denote.Param.Members.{Mut}

module _ {F B : Type 0} (g : Mut F (ℕ × Unit {0}) B) (f : F) (P : ℕ → B → Type 0)
    (calls : (i : ℕ) (y : B) (q : F) → Called g f (i, tt) y q → (q ≡ f) × P i y) where
  from_here : (xs : List B) (n i : ℕ) → IsFromFnResultFrom g f xs i n → (k : ℕ) (d : B) → i ≤ k → k < i + n → P k (slice_index_or xs k d)
  from_here xs zero i made k d l h = absurd (omega arith)
  from_here xs (suc n) i (q, y, at, called, rest) k d l h =
      let facts = calls i y q called in
      elim (cases_eq k i) [
        | inl e ↦ subst (λ (j : ℕ). P j (slice_index_or xs j d)) (sym e) (subst (P i) (sym (at.1 d)) facts.1)
        | inr ne ↦ from_here xs n (i + 1) (subst (λ (p : F). IsFromFnResultFrom g p xs (i + 1) n) facts.0 rest) k d (omega arith) (omega arith)
      ]

  pub from_fn_at : (xs : List B) (n : ℕ) → IsFromFnResultFrom g f xs 0 n → (k : ℕ) (d : B) → k < n → P k (slice_index_or xs k d)
  from_fn_at xs n made k d h = from_here xs n 0 made k d (omega arith) (omega arith)
