-- The walk completes every set with stable parts once, and makes as many tries as the effort says.
use Rattle.std.proofs.Common.{◌≡◌, ℕ, zero, suc, ◌+◌, ◌*◌, ◌^◌, ◌<◌, Bool, true, false, cond, not, ◌&&◌, eqb, List, [], ◌∷◌, ◌++◌, length, sym, refl, ap, ◌∙◌, subst, ap₂, suc-mul, mul-zero, zero-mul, arith, length-append}
use mathlib.Core.Path.{fun_ext}
use Rattle.std.specs.List.{ContainsAt, flat_map, range_with_len}
use Rattle.std.proofs.lemmas.List.FromFn.{length-range_with_len}
use Rattle.std.proofs.lemmas.Bool.{cond-true, cond-false}
use Rattle.rulings.specs.Points.{Points}
use Rattle.rows.proofs.Pairwise.{to_places}
use Rattle.rows.proofs.Putting.{has_none}
use Rattle.semantics.specs.Meaning.{Meaning}
use Rattle.semantics.specs.Chapters.{PartStable}
use Rattle.semantics.specs.Listing.{width, sum_below}
use Rattle.semantics.specs.Walk.{none, holds, levels, Test, Try, with_candidate, passes, try_of, tries, walk, completed, AllOnce, WalkCompletes, WalkEffort}
use Rattle.semantics.proofs.Joined.{joined_only, joined_joined, joined_single, joined_cond}
use Rattle.semantics.proofs.Fillings.{candidate_list, extend, extend_holds, extend_empty, fillings, fillings_zero, fillings_suc, fillings_sound, fillings_complete, fillings_distinct}
use Rattle.semantics.proofs.Ways.{ways_counted}
use Rattle.semantics.proofs.Levels.{levels_from, levels_all, levels_none, levels_holds, levels_empty, first_level}

module _ (m : Meaning) (ch : ℕ → ℕ) where
  -- some tries complete what their parts complete
  pub completed_append : (ts us : List Try) → completed m ch (ts ++ us) ≡ completed m ch ts ++ completed m ch us
  unfolding completed
  completed_append [] us = refl
  completed_append (t ∷ ts) us = go t.completes (completed_append ts us)
    where
      x : Points
      x = with_candidate m ch t.chapter t.lower t.candidate

      go : (b : Bool) → completed m ch (ts ++ us) ≡ completed m ch ts ++ completed m ch us →
          cond b (x ∷ completed m ch (ts ++ us)) (completed m ch (ts ++ us)) ≡ cond b (x ∷ completed m ch ts) (completed m ch ts) ++ completed m ch us
      go true e = ap (λ (xs : List Points). x ∷ xs) e
      go false e = e

  completed_joined : {X : Type 0} (f : X → List Try) (xs : List X) → completed m ch (flat_map f xs) ≡ flat_map (λ x. completed m ch (f x)) xs
  unfolding completed
  completed_joined f [] = refl
  completed_joined f (x ∷ xs) = completed_append (f x) (flat_map f xs) ∙ ap (λ (ys : List Points). completed m ch (f x) ++ ys) (completed_joined f xs)

-- what the tries above U at some levels complete
results : Meaning → (ℕ → ℕ) → Test → List ℕ → Points → List Points
results m ch test [] U = U ∷ []
results m ch test (k ∷ ks) U =
    flat_map (λ c. cond (passes m ch test k U c) (results m ch test ks (with_candidate m ch k U c)) []) (range_with_len 0 (2 ^ width m ch k))

module _ (m : Meaning) (ch : ℕ → ℕ) (test : Test) where
  -- a candidate that does not complete a ruling, or does
  completed_higher : (t : Try) (b : Bool) (ts : List Try) → t.completes ≡ b && false → completed m ch (t ∷ cond b ts []) ≡ cond b (completed m ch ts) []
  unfolding completed
  completed_higher t true ts e = cond-false t.completes _ _ e
  completed_higher t false ts e = cond-false t.completes _ _ e

  completed_last : (t : Try) (b : Bool) → t.completes ≡ b && true →
      completed m ch (t ∷ cond b [] []) ≡ cond b (with_candidate m ch t.chapter t.lower t.candidate ∷ []) []
  unfolding completed
  completed_last t true e = cond-true t.completes _ _ e
  completed_last t false e = cond-false t.completes _ _ e

  tries_complete : (k : ℕ) (ks : List ℕ) (U : Points) → completed m ch (tries m ch test (k ∷ ks) U) ≡ results m ch test (k ∷ ks) U
  unfolding tries results
  tries_complete k [] U =
      completed_joined m ch _ (range_with_len 0 (2 ^ width m ch k))
      ∙ ap (λ (f : ℕ → List Points). flat_map f (range_with_len 0 (2 ^ width m ch k)))
      (fun_ext (λ c. completed_last (try_of m ch test k [] U c) (passes m ch test k U c) refl))
  tries_complete k (j ∷ ks) U =
      completed_joined m ch _ (range_with_len 0 (2 ^ width m ch k))
      ∙ ap (λ (f : ℕ → List Points). flat_map f (range_with_len 0 (2 ^ width m ch k)))
      (fun_ext (λ c. completed_higher (try_of m ch test k (j ∷ ks) U c) (passes m ch test k U c) (tries m ch test (j ∷ ks) (with_candidate m ch k U c)) refl
      ∙ ap (λ (xs : List Points). cond (passes m ch test k U c) xs []) (tries_complete j ks (with_candidate m ch k U c))))

  -- a list made for each extension of U is made for each stable candidate
  joined_extend : {A : Type 0} (g : Points → List A) (k : ℕ) (U : Points) → holds m ch k ≡ true →
      flat_map g (extend m ch test k U) ≡ flat_map (λ c. cond (passes m ch test k U c) (g (with_candidate m ch k U c)) []) (range_with_len 0 (2 ^ width m ch k))
  joined_extend {A} g k U e =
      ap (flat_map g) (extend_holds m ch test k U e)
      ∙ (joined_joined (candidate_list m ch test k U) g (range_with_len 0 (2 ^ width m ch k))
      ∙ ap (λ (f : ℕ → List A). flat_map f (range_with_len 0 (2 ^ width m ch k)))
      (fun_ext (λ c. joined_cond g (passes m ch test k U c) (with_candidate m ch k U c ∷ [])
      ∙ ap (λ (xs : List A). cond (passes m ch test k U c) xs []) (joined_only g (with_candidate m ch k U c)))))

  joined_extend_empty : {A : Type 0} (g : Points → List A) (k : ℕ) (U : Points) → holds m ch k ≡ false → flat_map g (extend m ch test k U) ≡ g U
  joined_extend_empty g k U e = ap (flat_map g) (extend_empty m ch test k U e) ∙ joined_only g U

  -- the results from chapter k on are those from the next chapter on, over each extension
  results_step : (n k : ℕ) (U : Points) → results m ch test (levels_from m ch (suc n) k) U ≡ flat_map (results m ch test (levels_from m ch n (suc k))) (extend m ch test k U)
  unfolding results
  results_step n k U = go (holds m ch k) refl
    where
      rest : List ℕ
      rest = levels_from m ch n (suc k)

      go : (t : Bool) → holds m ch k ≡ t → results m ch test (levels_from m ch (suc n) k) U ≡ flat_map (results m ch test rest) (extend m ch test k U)
      go true e = ap (λ (ks : List ℕ). results m ch test ks U) (levels_holds m ch n k e) ∙ sym (joined_extend (results m ch test rest) k U e)
      go false e = ap (λ (ks : List ℕ). results m ch test ks U) (levels_empty m ch n k e) ∙ sym (joined_extend_empty (results m ch test rest) k U e)

  results_fill : (n k : ℕ) → flat_map (results m ch test (levels_from m ch n k)) (fillings m ch test k) ≡ fillings m ch test (k + n)
  unfolding results
  results_fill zero k =
      ap (λ (ks : List ℕ). flat_map (results m ch test ks) (fillings m ch test k)) (levels_none m ch k)
      ∙ (joined_single (fillings m ch test k) ∙ ap (fillings m ch test) (omega arith))
  results_fill (suc n) k =
      ap (λ (f : Points → List Points). flat_map f (fillings m ch test k)) (fun_ext (results_step n k))
      ∙ (sym (joined_joined (extend m ch test k) (results m ch test (levels_from m ch n (suc k))) (fillings m ch test k))
      ∙ (ap (flat_map (results m ch test (levels_from m ch n (suc k)))) (sym (fillings_suc m ch test k))
      ∙ (results_fill n (suc k) ∙ ap (fillings m ch test) (omega arith))))

  -- a walk with a level completes the fillings of all chapters
  completes_fillings : (k : ℕ) → ContainsAt (levels m ch) k → completed m ch (walk m ch test) ≡ fillings m ch test 16
  completes_fillings k h =
      at (levels m ch) h ∙ (ap (λ (ks : List ℕ). results m ch test ks none) (levels_all m ch)
      ∙ (sym (joined_only (results m ch test (levels_from m ch 16 0)) none)
      ∙ (ap (flat_map (results m ch test (levels_from m ch 16 0))) (sym (fillings_zero m ch test)) ∙ results_fill 16 0)))
    where
      at : (ks : List ℕ) → ContainsAt ks k → completed m ch (tries m ch test ks none) ≡ results m ch test ks none
      at [] q = absurd (has_none k q)
      at (j ∷ ks) q = tries_complete j ks none

-- ---- sound and complete

pub walk_completes : WalkCompletes
walk_completes m ch test l few tells =
    subst (AllOnce (λ x. (k : ℕ) → k < 16 → PartStable m ch x k)) (sym (completes_fillings m ch test (ch 0) (first_level m l ch few)))
    (record {
      only = λ x h. (fillings_sound m l ch test tells 16 x h).stable;
      each = λ x s. fillings_complete m l ch test tells 16 x (record { lower = λ a _. few a; stable = s });
      once = to_places (λ (x y : Points). x ≡ y → ⊥) (fillings m ch test 16) (fillings_distinct m l ch test tells 16);
    })

-- ---- the effort

length_joined_cons : {X A : Type 0} (t : X → A) (g : X → List A) (xs : List X) → length (flat_map (λ x. t x ∷ g x) xs) ≡ length xs + length (flat_map g xs)
length_joined_cons t g [] = refl
length_joined_cons t g (x ∷ xs) =
    let h = length_joined_cons t g xs in
    let a = length-append (g x) (flat_map (λ y. t y ∷ g y) xs) in
    let b = length-append (g x) (flat_map g xs) in
    omega arith

length_joined_more : {X A : Type 0} (f g : X → List A) (w : ℕ) → ((x : X) → length (f x) ≡ w + length (g x)) → (xs : List X) →
    length (flat_map f xs) ≡ length xs * w + length (flat_map g xs)
length_joined_more f g w e [] = sym (ap (λ (n : ℕ). n + 0) (zero-mul w))
length_joined_more f g w e (x ∷ xs) =
    let h = length_joined_more f g w e xs in
    let a = length-append (f x) (flat_map f xs) in
    let b = length-append (g x) (flat_map g xs) in
    let c = suc-mul (length xs) w in
    let d = e x in
    omega arith

module _ (m : Meaning) (ch : ℕ → ℕ) (test : Test) where
  -- the tries that one filling of the chapters lower than k meets in chapter k
  candidates_in : ℕ → ℕ
  candidates_in k = cond (eqb (width m ch k) 0) 0 (2 ^ width m ch k)

  tries_step : (n k : ℕ) (U : Points) → length (tries m ch test (levels_from m ch (suc n) k) U)
      ≡ candidates_in k + length (flat_map (tries m ch test (levels_from m ch n (suc k))) (extend m ch test k U))
  unfolding tries candidates_in
  tries_step n k U = go (eqb (width m ch k) 0) refl
    where
      rest : List ℕ
      rest = levels_from m ch n (suc k)

      go : (t : Bool) → eqb (width m ch k) 0 ≡ t → length (tries m ch test (levels_from m ch (suc n) k) U)
          ≡ cond t 0 (2 ^ width m ch k) + length (flat_map (tries m ch test rest) (extend m ch test k U))
      go true e =
          let q : holds m ch k ≡ false = ap not e in
          ap length (ap (λ (ks : List ℕ). tries m ch test ks U) (levels_empty m ch n k q) ∙ sym (joined_extend_empty m ch test (tries m ch test rest) k U q)) ∙ omega arith
      go false e =
          let q : holds m ch k ≡ true = ap not e in
          ap (λ (ks : List ℕ). length (tries m ch test ks U)) (levels_holds m ch n k q)
          ∙ (length_joined_cons (try_of m ch test k rest U) (λ c. cond (passes m ch test k U c) (tries m ch test rest (with_candidate m ch k U c)) []) (range_with_len 0 (2 ^ width m ch k))
          ∙ ap₂ ◌+◌ (length-range_with_len 0 (2 ^ width m ch k)) (ap length (sym (joined_extend m ch test (tries m ch test rest) k U q))))

  -- the summand of the effort
  effort_at : ℕ → ℕ
  effort_at k = cond (eqb (width m ch k) 0) 0 (length (fillings m ch test k) * 2 ^ width m ch k)

  effort_at_is : (k : ℕ) → length (fillings m ch test k) * candidates_in k ≡ effort_at k
  unfolding candidates_in effort_at
  effort_at_is k = go (eqb (width m ch k) 0)
    where
      go : (t : Bool) → length (fillings m ch test k) * cond t 0 (2 ^ width m ch k) ≡ cond t 0 (length (fillings m ch test k) * 2 ^ width m ch k)
      go true = mul-zero (length (fillings m ch test k))
      go false = refl

  tries_from : ℕ → ℕ → ℕ
  tries_from n k = length (flat_map (tries m ch test (levels_from m ch n k)) (fillings m ch test k))

  tries_from_suc : (n k : ℕ) → tries_from (suc n) k ≡ effort_at k + tries_from n (suc k)
  unfolding tries_from
  tries_from_suc n k =
      length_joined_more (tries m ch test (levels_from m ch (suc n) k)) (λ U. flat_map (tries m ch test (levels_from m ch n (suc k))) (extend m ch test k U)) (candidates_in k)
      (tries_step n k) (fillings m ch test k)
      ∙ ap₂ ◌+◌ (effort_at_is k)
      (ap length (sym (joined_joined (extend m ch test k) (tries m ch test (levels_from m ch n (suc k))) (fillings m ch test k))
      ∙ ap (flat_map (tries m ch test (levels_from m ch n (suc k)))) (sym (fillings_suc m ch test k))))

  tries_from_none : (fs : List Points) (ks : List ℕ) → ks ≡ [] → length (flat_map (tries m ch test ks) fs) ≡ 0
  unfolding tries
  tries_from_none [] ks e = refl
  tries_from_none (U ∷ fs) [] e = tries_from_none fs [] refl
  tries_from_none (U ∷ fs) (k ∷ ks) e = absurd (let z = ap length e in omega arith)

  tries_sum : (n k : ℕ) → sum_below k effort_at + tries_from n k ≡ sum_below (k + n) effort_at
  unfolding tries_from
  tries_sum zero k =
      let z = tries_from_none (fillings m ch test k) (levels_from m ch 0 k) (levels_none m ch k) in
      let e : k ≡ k + 0 = omega arith in
      let s = ap (λ (j : ℕ). sum_below j effort_at) e in
      omega arith
  tries_sum (suc n) k =
      let h = tries_sum n (suc k) in
      let t = tries_from_suc n k in
      let e : suc k + n ≡ k + suc n = omega arith in
      let s = ap (λ (j : ℕ). sum_below j effort_at) e in
      omega arith

  walk_length : length (walk m ch test) ≡ sum_below 16 effort_at
  unfolding tries_from
  walk_length =
      ap length (ap (λ (ks : List ℕ). tries m ch test ks none) (levels_all m ch)
      ∙ (sym (joined_only (tries m ch test (levels_from m ch 16 0)) none) ∙ ap (flat_map (tries m ch test (levels_from m ch 16 0))) (sym (fillings_zero m ch test))))
      ∙ (omega arith ∙ tries_sum 16 0)

pub walk_effort : WalkEffort
unfolding effort_at
walk_effort m ch test l tells =
    record {
      ways = λ k. length (fillings m ch test k);
      counted = λ k _. ways_counted m l ch test tells k;
      total = walk_length m ch test;
    }
