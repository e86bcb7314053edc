-- From one moment of a history to a later one: the book means the same where no change of it was accepted.
use Rattle.std.proofs.Common.{◌≡◌, ℕ, zero, suc, ◌+◌, ◌-◌, ◌<◌, ◌≤◌, List, get_or, Some, sym, refl, ap, ◌∙◌, subst, inl, inr, ⊎_elim, arith}
use Rattle.std.specs.List.{slice_get}
use Rattle.std.proofs.lemmas.Bool.{cases_order}
use Rattle.std.proofs.lemmas.Option.{slice_get-get_or, slice_get_within}
use Rattle.semantics.specs.Meaning.{Meaning}
use Rattle.marker.specs.declared.marker.Marker.{Marker}
use Rattle.runs.specs.History.{History, AskedAt, Unchanged}
use Rattle.runs.specs.Step.{Language, Kind, to_judge, to_judge_by_chapter, to_read, to_list, to_change, to_keep, means}
use Rattle.runs.specs.Told.{Told, done}
use Rattle.runs.proofs.CallKinds.{StepOf, Keeps}

-- a step that is not an accepted change leaves what the book means
leaves : {B : Type 0} (f : B → Meaning) (q : Kind) (s : Marker B) (t : Told) (s' : Marker B) → StepOf f q s t s' → (q ≡ to_change → t ≡ done → ⊥) → means f s' ≡ means f s
leaves f (to_judge y) s t s' (_, _, _, same) none = ap (means f) same
leaves f (to_judge_by_chapter y) s t s' (_, _, _, same) none = ap (means f) same
leaves f to_read s t s' (_, _, _, _, _, _, _, same) none = ap (means f) same
leaves f (to_list n) s t s' (_, _, _, _, _, _, same) none = ap (means f) same
leaves f to_change s t s' (inl e) none = absurd (none refl e)
leaves f to_change s t s' (inr (why, e, same)) none = same
leaves f to_keep s t s' same none = same

-- below an element of a list there are elements
there : {X : Type 0} (xs : List X) (j n : ℕ) (x : X) → slice_get xs j ≡ Some x → n ≤ j → (y : X) × (slice_get xs n ≡ Some y)
there xs j n x e l = (get_or xs n x, slice_get-get_or xs n x (omega (arith, slice_get_within xs j x e)))

module _ {B : Type 0} (L : Language B) (keeps : Keeps L) {s e : Marker B} {cs : List L.Calls} {ts : List Told} (h : History L s cs ts e) where
  abbrev meant_at : ℕ → Meaning
  meant_at n = means L.meaning (h.moment n)

  -- a question is a step of its kind
  pub step_of : (i : ℕ) (q : Kind) (m : Meaning) (ch : ℕ → ℕ) (t : Told) → AskedAt h i q m ch t → StepOf L.meaning q (h.moment i) t (h.moment (i + 1))
  step_of i q m ch t a =
      subst (λ (k : Kind). StepOf L.meaning k (h.moment i) t (h.moment (i + 1))) a.of_kind
      (keeps.owed a.call (h.moment i) t (h.moment (i + 1)) (h.step i a.call t a.made a.answered))

  -- step by step
  run : (i d : ℕ) → ((n : ℕ) → i ≤ n → n < i + d → meant_at (n + 1) ≡ meant_at n) → meant_at (i + d) ≡ meant_at i
  run i zero left = let e : i + zero ≡ i = omega arith in ap meant_at e
  run i (suc d) left =
      let e : i + suc d ≡ i + d + 1 = omega arith in
      ap meant_at e ∙ left (i + d) (omega arith) (omega arith) ∙ run i d (λ n p q. left n p (omega arith))

  -- between a question and another, with no accepted change in between
  pub between : (i j : ℕ) (q q' : Kind) (m m' : Meaning) (ch ch' : ℕ → ℕ) (t t' : Told) → AskedAt h i q m ch t → AskedAt h j q' m' ch' t' →
      (q ≡ to_change → ⊥) → Unchanged h i j → meant_at j ≡ meant_at i
  between i j q q' m m' ch ch' t t' a b question un =
      let e : j ≡ i + (j - i) = omega (arith, un.later) in
      ap meant_at e ∙ run i (j - i) left
    where
      left : (n : ℕ) → i ≤ n → n < i + (j - i) → meant_at (n + 1) ≡ meant_at n
      left n low high =
          ⊎_elim
          (λ (same : n ≡ i).
          subst (λ (k : ℕ). meant_at (k + 1) ≡ meant_at k) (sym same)
          (leaves L.meaning q (h.moment i) t (h.moment (i + 1)) (step_of i q m ch t a) (λ k _. question k)))
          (⊎_elim
          (λ (l : n < i). absurd (omega arith))
          (λ (l : i < n).
          let p : n < j = omega (arith, un.later) in
          let c = there cs j n b.call b.made (omega arith) in
          let u = there ts j n t' b.answered (omega arith) in
          leaves L.meaning (L.kind c.0) (h.moment n) u.0 (h.moment (n + 1))
          (keeps.owed c.0 (h.moment n) u.0 (h.moment (n + 1)) (h.step n c.0 u.0 c.1 u.1))
          (un.denied n c.0 u.0 l p c.1 u.1)))
          (cases_order n i)
