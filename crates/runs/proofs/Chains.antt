-- Histories grown call by call: the empty one, and one extended by a call.
use Rattle.std.proofs.Common.{◌≡◌, ℕ, ◌+◌, ◌<◌, ◌≤◌, cond, leb, List, [], ◌∷◌, ◌++◌, map, length, get_or, take, Some, sym, refl, ap, ◌∙◌, subst, ⊎_elim, arith}
use Rattle.std.specs.List.{slice_get}
use Rattle.std.proofs.lemmas.List.{length_push, take_all, take_more, map_push, get_or_append_left}
use Rattle.std.proofs.Math.Seq.{get_or-append_seam}
use Rattle.std.proofs.lemmas.Bool.{cases_order, cond-true, cond-false, le-leb, lt-leb}
use Rattle.std.proofs.lemmas.Option.{slice_get_past, slice_get-get_or}
use Rattle.marker.specs.declared.marker.Marker.{Marker}
use Rattle.runs.specs.History.{History, BrokenOff}
use Rattle.runs.specs.Step.{Language}
use Rattle.runs.specs.Told.{Told}

-- no call was made
pub nothing : {B : Type 0} (L : Language B) (s : Marker B) → History L s [] [] s
nothing L s =
    record {
      moment = λ _. s;
      starts = refl;
      ends = refl;
      each = refl;
      step = λ i c t made answered. absurd (cc (slice_get_past {X = L.Calls} [] i (omega arith)));
    }

nth_before : {X : Type 0} (xs : List X) (y : X) (i : ℕ) → i < length xs → slice_get (xs ++ y ∷ []) i ≡ slice_get xs i
nth_before xs y i h =
    slice_get-get_or (xs ++ y ∷ []) i y (omega (arith, length_push xs y)) ∙ ap Some (get_or_append_left xs (y ∷ []) y i h) ∙ sym (slice_get-get_or xs i y h)

nth_last : {X : Type 0} (xs : List X) (y : X) → slice_get (xs ++ y ∷ []) (length xs) ≡ Some y
nth_last xs y = slice_get-get_or (xs ++ y ∷ []) (length xs) y (omega (arith, length_push xs y)) ∙ ap Some (get_or-append_seam xs y [] y)

last_is : {X : Type 0} (xs : List X) (x y : X) (i : ℕ) → i ≡ length xs → slice_get (xs ++ x ∷ []) i ≡ Some y → x ≡ y
last_is xs x y i e h = let l = nth_last xs x in let m = ap (slice_get (xs ++ x ∷ [])) e in cc

-- one more call
module _ {B : Type 0} (L : Language B) {s e : Marker B} {cs : List L.Calls} {ts : List Told} (h : History L s cs ts e) (c : L.Calls) (t : Told) (e' : Marker B) where
  abbrev at : ℕ → Marker B
  at i = cond (leb i (length cs)) (h.moment i) e'

  at_old : (i : ℕ) → i ≤ length cs → at i ≡ h.moment i
  at_old i l = cond-true (leb i (length cs)) (h.moment i) e' (le-leb i (length cs) l)

  at_new : (i : ℕ) → length cs < i → at i ≡ e'
  at_new i l = cond-false (leb i (length cs)) (h.moment i) e' (lt-leb i (length cs) l)

  does_at : (a b a' b' : Marker B) (d : L.Calls) (u : Told) → a ≡ a' → b ≡ b' → L.does d a u b → L.does d a' u b'
  does_at a b a' b' d u p q st = subst (λ (x : Marker B). L.does d x u b') p (subst (λ (x : Marker B). L.does d a u x) q st)

  at_step : L.does c e t e' → (i : ℕ) (d : L.Calls) (u : Told) → slice_get (cs ++ c ∷ []) i ≡ Some d → slice_get (ts ++ t ∷ []) i ≡ Some u → L.does d (at i) u (at (i + 1))
  at_step st i d u made answered =
      ⊎_elim
      (λ (o : i ≡ length cs).
      let a : at i ≡ e = at_old i (omega arith) ∙ ap h.moment o ∙ h.ends in
      let b : at (i + 1) ≡ e' = at_new (i + 1) (omega arith) in
      let ec : c ≡ d = last_is cs c d i o made in
      let et : t ≡ u = last_is ts t u i (o ∙ sym h.each) answered in
      does_at e e' (at i) (at (i + 1)) d u (sym a) (sym b)
      (subst (λ (x : L.Calls). L.does x e u e') ec (subst (λ (x : Told). L.does c e x e') et st)))
      (⊎_elim
      (λ (l : i < length cs).
      let a : at i ≡ h.moment i = at_old i (omega arith) in
      let b : at (i + 1) ≡ h.moment (i + 1) = at_old (i + 1) (omega arith) in
      let lt : i < length ts = omega (arith, h.each) in
      does_at (h.moment i) (h.moment (i + 1)) (at i) (at (i + 1)) d u (sym a) (sym b)
      (h.step i d u (sym (nth_before cs c i l) ∙ made) (sym (nth_before ts t i lt) ∙ answered)))
      (λ (l : length cs < i). absurd (cc (slice_get_past (cs ++ c ∷ []) i (omega (arith, length_push cs c))))))
      (cases_order i (length cs))

  pub extend : L.does c e t e' → History L s (cs ++ c ∷ []) (ts ++ t ∷ []) e'
  extend st =
      record {
        moment = at;
        starts = at_old 0 (omega arith) ∙ h.starts;
        ends = at_new (length (cs ++ c ∷ [])) (omega (arith, length_push cs c));
        each = length_push ts t ∙ ap (λ n. n + 1) h.each ∙ sym (length_push cs c);
        step = at_step st;
      }

-- one more of the calls that are to be made, the one at place i; A is the type of answers as code has them
pub extend_at : {B A : Type 0} (L : Language B) (told : A → Told) {s : Marker B} (calls : List L.Calls) (i : ℕ) (c : L.Calls) (answers : List A) (a : A) (e e' : Marker B) →
    i < length calls → c ≡ get_or calls i c → L.does c e (told a) e' →
    History L s (take i calls) (map told answers) e → History L s (take (i + 1) calls) (map told (answers ++ a ∷ [])) e'
extend_at {B} {A} L told {s} calls i c answers a e e' l is st h =
    subst (λ (cs : List L.Calls). History L s cs (map told (answers ++ a ∷ [])) e') (sym (take_more calls i c l))
    (subst (λ (ts : List Told). History L s (take i calls ++ get_or calls i c ∷ []) ts e') (sym (map_push told answers a))
    (extend L h (get_or calls i c) (told a) e' (subst (λ (x : L.Calls). L.does x e (told a) e') is st)))

-- a run that was not begun, and one that was ended, as runs of the calls made so far
pub not_begun : {B : Type 0} (L : Language B) (s : Marker B) (calls : List L.Calls) → BrokenOff L s calls s
not_begun L s calls = (0, [], omega arith, nothing L s)

pub ended : {B : Type 0} (L : Language B) (s : Marker B) (calls : List L.Calls) (answers : List Told) (e : Marker B) → History L s calls answers e → BrokenOff L s calls e
ended L s calls answers e h =
    (length calls, answers, omega arith, subst (λ (cs : List L.Calls). History L s cs answers e) (sym (take_all (length calls) calls (omega arith))) h)
