-- The walk step by step: what remains of the tries from a level and a candidate, over the candidates picked at the lower levels.
use Rattle.std.proofs.Common.{◌≡◌, ℕ, zero, suc, ◌+◌, ◌-◌, ◌^◌, ◌<◌, ◌≤◌, Bool, true, false, cond, ◌&&◌, List, [], ◌∷◌, ◌++◌, length, get_or, take, drop, set, sym, refl, ap, ◌∙◌, ap₂, append_assoc, add-one, arith, length-drop}
use Rattle.std.specs.List.{flat_map, range_with_len}
use Rattle.std.proofs.lemmas.List.{append-nil, drop_more, drop_all, take_more, get_or-set_same, get_or-set_other}
use Rattle.std.proofs.lemmas.Bool.{cond-true, cond-false}
use Rattle.rulings.specs.Points.{Points}
use Rattle.semantics.specs.Meaning.{Meaning}
use Rattle.semantics.specs.Listing.{width}
use Rattle.semantics.specs.Walk.{none, Test, Try, with_candidate, last, passes, try_of, tries, completed}
use Rattle.semantics.proofs.Walk.{completed_append}

-- ---- tries done and tries left

-- the next try is t: one more is done
pub record Next (all : List Try) (effort : ℕ) (t : Try) (left : List Try) : Type 0 where
  pub inside : effort < length all
  pub dropped : drop (effort + 1) all ≡ left
  pub taken : take (effort + 1) all ≡ take effort all ++ t ∷ []

pub next_of : (all : List Try) (effort : ℕ) (t : Try) (left : List Try) → drop effort all ≡ t ∷ left → Next all effort t left
next_of all effort t left h =
    record {
      inside = inside;
      dropped = let e = more in cc;
      taken = take_more all effort t inside ∙ ap (λ (u : Try). take effort all ++ u ∷ []) (let e = more in cc);
    }
  where
    inside : effort < length all
    inside = let l = ap length h in let n = length-drop effort all in omega arith

    more : drop effort all ≡ get_or all effort t ∷ drop (effort + 1) all
    more = drop_more all effort t inside

-- nothing is left: all are done
pub none_left : (all : List Try) (effort : ℕ) → effort ≤ length all → drop effort all ≡ [] → effort ≡ length all
none_left all effort h e = let l = ap length e in let n = length-drop effort all in omega arith

module _ (m : Meaning) (ch : ℕ → ℕ) where
  completed_one : (t : Try) (b : Bool) → t.completes ≡ b →
      completed m ch (t ∷ []) ≡ cond b (with_candidate m ch t.chapter t.lower t.candidate ∷ []) []
  unfolding completed
  completed_one t b e = ap (λ (s : Bool). cond s (with_candidate m ch t.chapter t.lower t.candidate ∷ []) []) e

  module _ (all : List Try) (effort : ℕ) (t : Try) (left : List Try) (n : Next all effort t left) where
    -- a try that completes nothing
    pub completed_same : t.completes ≡ false → completed m ch (take (effort + 1) all) ≡ completed m ch (take effort all)
    completed_same e =
        ap (completed m ch) n.taken ∙ (completed_append m ch (take effort all) (t ∷ [])
        ∙ (ap (λ (xs : List Points). completed m ch (take effort all) ++ xs) (completed_one t false e) ∙ append-nil (completed m ch (take effort all))))

    -- a try that completes a ruling
    pub completed_more : t.completes ≡ true →
        completed m ch (take (effort + 1) all) ≡ completed m ch (take effort all) ++ with_candidate m ch t.chapter t.lower t.candidate ∷ []
    completed_more e =
        ap (completed m ch) n.taken ∙ (completed_append m ch (take effort all) (t ∷ [])
        ∙ ap (λ (xs : List Points). completed m ch (take effort all) ++ xs) (completed_one t true e))

-- ---- what remains

-- how many candidates a level has
abbrev pub size_at : Meaning → (ℕ → ℕ) → List ℕ → ℕ → ℕ
size_at m ch ks j = 2 ^ width m ch (get_or ks j 0)

-- the part picked at the levels below
unfoldable pub picked : Meaning → (ℕ → ℕ) → List ℕ → List ℕ → ℕ → Points
picked m ch ks picks zero = none
picked m ch ks picks (suc j) = with_candidate m ch (get_or ks j 0) (picked m ch ks picks j) (get_or picks j 0)

-- the tries at level j from candidate c on, over U, with those above them
pub from_candidate : Meaning → (ℕ → ℕ) → Test → List ℕ → ℕ → Points → ℕ → List Try
from_candidate m ch test ks j U c =
    flat_map (λ d. try_of m ch test (get_or ks j 0) (drop (j + 1) ks) U d
    ∷ cond (passes m ch test (get_or ks j 0) U d) (tries m ch test (drop (j + 1) ks) (with_candidate m ch (get_or ks j 0) U d)) [])
    (range_with_len c (size_at m ch ks j - c))

-- the tries that the levels below still have after their picks, the highest level first
pub pending : Meaning → (ℕ → ℕ) → Test → List ℕ → List ℕ → ℕ → List Try
pending m ch test ks picks zero = []
pending m ch test ks picks (suc j) = from_candidate m ch test ks j (picked m ch ks picks j) (get_or picks j 0 + 1) ++ pending m ch test ks picks j

-- what remains of the walk over the levels ks from a level and a candidate on
pub rest : Meaning → (ℕ → ℕ) → Test → List ℕ → List ℕ → ℕ → ℕ → List Try
rest m ch test ks picks level c = from_candidate m ch test ks level (picked m ch ks picks level) c ++ pending m ch test ks picks level

-- the try of candidate c at a level
abbrev pub try_at : Meaning → (ℕ → ℕ) → Test → List ℕ → List ℕ → ℕ → ℕ → Try
try_at m ch test ks picks level c = try_of m ch test (get_or ks level 0) (drop (level + 1) ks) (picked m ch ks picks level) c

-- candidate c at a level is stable over the picks
abbrev pub passes_at : Meaning → (ℕ → ℕ) → Test → List ℕ → List ℕ → ℕ → ℕ → Bool
passes_at m ch test ks picks level c = passes m ch test (get_or ks level 0) (picked m ch ks picks level) c

module _ (m : Meaning) (ch : ℕ → ℕ) (test : Test) (ks : List ℕ) where
  last_level : (j : ℕ) → length ks ≤ j → last (drop j ks) ≡ true
  last_level j h = ap last (drop_all j ks h)

  not_last_level : (j : ℕ) → j < length ks → last (drop j ks) ≡ false
  not_last_level j h = ap last (drop_more ks j 0 h)

  tries_at : (j : ℕ) (U : Points) → j < length ks → tries m ch test (drop j ks) U ≡ from_candidate m ch test ks j U 0
  unfolding tries from_candidate
  tries_at j U h =
      let e : size_at m ch ks j ≡ size_at m ch ks j - 0 = omega arith in
      ap (λ (ls : List ℕ). tries m ch test ls U) (drop_more ks j 0 h)
      ∙ ap (λ (n : ℕ). flat_map (λ d. try_of m ch test (get_or ks j 0) (drop (j + 1) ks) U d
      ∷ cond (passes m ch test (get_or ks j 0) U d) (tries m ch test (drop (j + 1) ks) (with_candidate m ch (get_or ks j 0) U d)) []) (range_with_len 0 n)) e

  from_next : (j : ℕ) (U : Points) (c : ℕ) → c < size_at m ch ks j → from_candidate m ch test ks j U c
      ≡ try_of m ch test (get_or ks j 0) (drop (j + 1) ks) U c
      ∷ (cond (passes m ch test (get_or ks j 0) U c) (tries m ch test (drop (j + 1) ks) (with_candidate m ch (get_or ks j 0) U c)) [] ++ from_candidate m ch test ks j U (c + 1))
  unfolding from_candidate
  from_next j U c h =
      let e : size_at m ch ks j - c ≡ suc (size_at m ch ks j - (c + 1)) = omega arith in
      ap (λ (n : ℕ). flat_map f (range_with_len c n)) e
    where
      f : ℕ → List Try
      f d = try_of m ch test (get_or ks j 0) (drop (j + 1) ks) U d
          ∷ cond (passes m ch test (get_or ks j 0) U d) (tries m ch test (drop (j + 1) ks) (with_candidate m ch (get_or ks j 0) U d)) []

  from_none : (j : ℕ) (U : Points) (c : ℕ) → size_at m ch ks j ≤ c → from_candidate m ch test ks j U c ≡ []
  unfolding from_candidate
  from_none j U c h = let e : size_at m ch ks j - c ≡ 0 = omega arith in rw e refl

  -- picks at this level and above do not matter below
  pub picked_set : (picks : List ℕ) (i v j : ℕ) → j ≤ i → picked m ch ks (set picks i v) j ≡ picked m ch ks picks j
  unfolding picked
  picked_set picks i v zero h = refl
  picked_set picks i v (suc j) h =
      ap₂ (λ (U : Points) (c : ℕ). with_candidate m ch (get_or ks j 0) U c) (picked_set picks i v j (omega arith)) (get_or-set_other picks i j v 0 (λ e. omega arith))

  -- a pick joins the part picked below it
  pub picked_more : (picks : List ℕ) (level c : ℕ) → level < length picks →
      picked m ch ks (set picks level c) (level + 1) ≡ with_candidate m ch (get_or ks level 0) (picked m ch ks picks level) c
  unfolding picked
  picked_more picks level c h =
      ap (picked m ch ks (set picks level c)) (add-one level)
      ∙ ap₂ (λ (U : Points) (d : ℕ). with_candidate m ch (get_or ks level 0) U d) (picked_set picks level c level (omega arith)) (get_or-set_same picks level c 0 h)

  pending_set : (picks : List ℕ) (i v j : ℕ) → j ≤ i → pending m ch test ks (set picks i v) j ≡ pending m ch test ks picks j
  unfolding pending
  pending_set picks i v zero h = refl
  pending_set picks i v (suc j) h =
      ap₂ (λ (ts us : List Try). ts ++ us)
      (ap₂ (λ (U : Points) (c : ℕ). from_candidate m ch test ks j U (c + 1)) (picked_set picks i v j (omega arith)) (get_or-set_other picks i j v 0 (λ e. omega arith)))
      (pending_set picks i v j (omega arith))

  pub rest_set : (picks : List ℕ) (level v c : ℕ) → rest m ch test ks (set picks level v) level c ≡ rest m ch test ks picks level c
  unfolding rest
  rest_set picks level v c =
      ap₂ (λ (ts us : List Try). ts ++ us)
      (ap (λ (U : Points). from_candidate m ch test ks level U c) (picked_set picks level v level (omega arith)))
      (pending_set picks level v level (omega arith))

  -- the start: the lowest level, at its first candidate
  pub rest_start : (picks : List ℕ) → 0 < length ks → tries m ch test ks none ≡ rest m ch test ks picks 0 0
  unfolding rest pending picked
  rest_start picks h = tries_at 0 none h ∙ sym (append-nil (from_candidate m ch test ks 0 none 0))

  module _ (picks : List ℕ) (level c : ℕ) where
    -- the tries above a candidate, if it is stable
    above : List Try
    above = tries m ch test (drop (level + 1) ks) (with_candidate m ch (get_or ks level 0) (picked m ch ks picks level) c)

    rest_next : c < size_at m ch ks level → rest m ch test ks picks level c
        ≡ try_at m ch test ks picks level c ∷ (cond (passes_at m ch test ks picks level c) above [] ++ rest m ch test ks picks level (c + 1))
    unfolding rest above
    rest_next h =
        ap (λ (ts : List Try). ts ++ pending m ch test ks picks level) (from_next level (picked m ch ks picks level) c h)
        ∙ ap (λ (ts : List Try). try_at m ch test ks picks level c ∷ ts)
        (append_assoc (cond (passes_at m ch test ks picks level c) above []) (from_candidate m ch test ks level (picked m ch ks picks level) (c + 1)) (pending m ch test ks picks level))

    -- a candidate that is not stable: the next candidate
    pub rest_miss : c < size_at m ch ks level → passes_at m ch test ks picks level c ≡ false →
        rest m ch test ks picks level c ≡ try_at m ch test ks picks level c ∷ rest m ch test ks picks level (c + 1)
    rest_miss h e =
        rest_next h ∙ ap (λ (ts : List Try). try_at m ch test ks picks level c ∷ (ts ++ rest m ch test ks picks level (c + 1)))
        (cond-false (passes_at m ch test ks picks level c) above [] e)

    pub miss_completes : passes_at m ch test ks picks level c ≡ false → (try_at m ch test ks picks level c).completes ≡ false
    miss_completes e = ap (λ (t : Bool). t && last (drop (level + 1) ks)) e

    -- a stable candidate at the last level: the next candidate, and a ruling is completed
    pub rest_hit : c < size_at m ch ks level → passes_at m ch test ks picks level c ≡ true → length ks ≤ level + 1 →
        rest m ch test ks picks level c ≡ try_at m ch test ks picks level c ∷ rest m ch test ks picks level (c + 1)
    unfolding tries above
    rest_hit h e q =
        rest_next h ∙ ap (λ (ts : List Try). try_at m ch test ks picks level c ∷ (ts ++ rest m ch test ks picks level (c + 1)))
        (cond-true (passes_at m ch test ks picks level c) above [] e
        ∙ ap (λ (ls : List ℕ). tries m ch test ls (with_candidate m ch (get_or ks level 0) (picked m ch ks picks level) c)) (drop_all (level + 1) ks q))

    pub hit_completes : passes_at m ch test ks picks level c ≡ true → length ks ≤ level + 1 → (try_at m ch test ks picks level c).completes ≡ true
    hit_completes e q = ap₂ ◌&&◌ e (last_level (level + 1) q)

    -- a stable candidate at any other level: it is picked, and the walk goes up one level
    pub rest_climb : c < size_at m ch ks level → passes_at m ch test ks picks level c ≡ true → level + 1 < length ks → level < length picks →
        rest m ch test ks picks level c ≡ try_at m ch test ks picks level c ∷ rest m ch test ks (set picks level c) (level + 1) 0
    unfolding rest above pending
    rest_climb h e q long =
        rest_next h ∙ ap (λ (ts : List Try). try_at m ch test ks picks level c ∷ ts)
        (ap₂ (λ (ts us : List Try). ts ++ us)
        (cond-true (passes_at m ch test ks picks level c) above [] e
        ∙ (tries_at (level + 1) (with_candidate m ch (get_or ks level 0) (picked m ch ks picks level) c) q
        ∙ ap (λ (U : Points). from_candidate m ch test ks (level + 1) U 0) (sym (picked_more picks level c long))))
        (sym (pending_more long)))
      where
        pending_more : level < length picks → pending m ch test ks (set picks level c) (level + 1) ≡ rest m ch test ks picks level (c + 1)
        pending_more long =
            ap (pending m ch test ks (set picks level c)) (add-one level)
            ∙ ap₂ (λ (ts us : List Try). ts ++ us)
            (ap₂ (λ (U : Points) (d : ℕ). from_candidate m ch test ks level U (d + 1)) (picked_set picks level c level (omega arith)) (get_or-set_same picks level c 0 long))
            (pending_set picks level c level (omega arith))

    pub climb_completes : level + 1 < length ks → (try_at m ch test ks picks level c).completes ≡ false
    climb_completes q = go (passes_at m ch test ks picks level c)
      where
        go : (t : Bool) → t && last (drop (level + 1) ks) ≡ false
        go true = not_last_level (level + 1) q
        go false = refl

  -- the end of a level's candidates: back to the level below, after its pick
  pub rest_back : (picks : List ℕ) (level c : ℕ) → 0 < level → size_at m ch ks level ≤ c →
      rest m ch test ks picks level c ≡ rest m ch test ks picks (level - 1) (get_or picks (level - 1) 0 + 1)
  unfolding rest pending
  rest_back picks zero c h q = absurd (omega arith)
  rest_back picks (suc j) c h q =
      let e : suc j - 1 ≡ j = omega arith in
      ap (λ (ts : List Try). ts ++ pending m ch test ks picks (suc j)) (from_none (suc j) (picked m ch ks picks (suc j)) c q)
      ∙ ap (λ (i : ℕ). rest m ch test ks picks i (get_or picks i 0 + 1)) (sym e)

  -- at the lowest level: the end of the walk
  pub rest_end : (picks : List ℕ) (c : ℕ) → size_at m ch ks 0 ≤ c → rest m ch test ks picks 0 c ≡ []
  unfolding rest pending
  rest_end picks c q = ap (λ (ts : List Try). ts ++ []) (from_none 0 (picked m ch ks picks 0) c q)
