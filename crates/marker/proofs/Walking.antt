-- The walk of a listing: what holds at each of its turns, and how it ends.
use Rattle.std.proofs.Common.{◌≡◌, ℕ, ◌+◌, ◌-◌, ◌^◌, ◌<◌, ◌≤◌, Bool, true, false, ◌&&◌, ◌||◌, eqb, ltb, ◌↔◌, Option, List, [], ◌∷◌, ◌++◌, length, get_or, take, drop, set, replicate, sym, refl, ap, ◌∙◌, subst, ap₂, inl, inr, append_assoc, arith, length-set, take-append-drop, lt-ltb}
use mathlib.Core.Path.{fun_ext}
use Rattle.std.specs.List.{ContainsAt}
use Rattle.std.proofs.lemmas.List.{length_push, take_all, get_or-set_same, get_or-set_other, get_or_append_left, get_or_push, same_from_push}
use Rattle.std.proofs.lemmas.Bool.{cases_lt, cases_Bool}
use Rattle.rulings.specs.Points.{Points}
use Rattle.rulings.specs.Rulings.{has}
use Rattle.rulings.specs.Order.{Precedes}
use Rattle.rulings.specs.declared.ruling.Ruling.{Ruling}
use Rattle.rows.specs.Rows.{Inserted}
use Rattle.rows.proofs.Pairwise.{from_places}
use Rattle.semantics.specs.Meaning.{Meaning, Lawful}
use Rattle.semantics.specs.Closure.{Stable}
use Rattle.semantics.specs.Chapters.{Sixteen, PartStable, restricted, chapter}
use Rattle.semantics.specs.Listing.{width, AllInRowOrder, AllPartsStable, Effort}
use Rattle.semantics.specs.Walk.{points_of, spread, levels, Try, AllOnce, with_candidate, walk, completed}
use Rattle.semantics.proofs.Joined.{Distinct}
use Rattle.semantics.proofs.Fillings.{filled_inside}
use Rattle.semantics.proofs.Levels.{level_holds, levels_below_all, levels_below_few, some_level}
use Rattle.semantics.proofs.Restricting.{restricted_alike, same_closure}
use Rattle.semantics.proofs.StableTest.{stable_test, stable_test_tells, stable_test_is}
use Rattle.semantics.proofs.Walk.{completed_append, walk_completes, walk_effort}
use Rattle.semantics.proofs.WalkSteps.{Next, next_of, none_left, completed_same, completed_more, size_at, picked, rest, try_at, passes_at, picked_set, picked_more, rest_start, rest_miss, miss_completes, rest_hit, hit_completes, rest_climb, climb_completes, rest_back, rest_end}
use Rattle.semantics.proofs.Ways.{listing_of}
use Rattle.marker.specs.declared.marker.listing.Step.{Step}
use Rattle.marker.specs.Listing.{NoneWide, MoreStable}
use Rattle.marker.specs.Walk.{Walked}
use Rattle.marker.proofs.Found.{InRows, rows_for, not_earlier, Kept, kept_none, kept_more}

-- all tries
abbrev pub all_tries : Meaning → (ℕ → ℕ) → List Try
all_tries m ch = walk m ch (stable_test m ch)

-- Where a walk is: at a candidate of the level above the steps set aside, over the part picked at their levels,
-- after some tries, with the rulings found in the rows. The picks are the candidates that the steps set aside stand behind.
pub record Walking (m : Meaning) (ch : ℕ → ℕ) (found : List Ruling) (steps : List Step) (c : ℕ) (lower : Ruling) (count effort : ℕ) (rows : List Ruling) : Type 0 where
  pub picks : List ℕ
  pub picks_long : length picks ≡ 16
  pub within : length steps < length (levels m ch)
  pub budget : effort ≤ 65536
  pub reached : effort ≤ length (all_tries m ch)
  pub counted : count ≤ effort
  pub left : drop effort (all_tries m ch) ≡ rest m ch (stable_test m ch) (levels m ch) picks (length steps) c
  pub over : has lower ≡ picked m ch (levels m ch) picks (length steps)
  pub aside : (j : ℕ) (d : Step) → j < length steps →
      ((get_or steps j d).first ≡ get_or picks j 0 + 1) × (has (get_or steps j d).lower ≡ picked m ch (levels m ch) picks j)
  pub number : count ≡ length (completed m ch (take effort (all_tries m ch)))
  pub kept : Kept (completed m ch (take effort (all_tries m ch))) count found rows

-- Where a walk is between two levels: it goes on at the last of its steps, and without any it is done.
pub record Paused (m : Meaning) (ch : ℕ → ℕ) (found : List Ruling) (steps : List Step) (count effort : ℕ) (rows : List Ruling) : Type 0 where
  pub budget : effort ≤ 65536
  pub going : (front : List Step) (s : Step) → steps ≡ front ++ s ∷ [] → Walking m ch found front s.first s.lower count effort rows
  pub done : steps ≡ [] → Walked m ch found (record { rows = count; effort = effort }) rows

-- the same steps, count and rows under other names
pub moved : (m : Meaning) (ch : ℕ → ℕ) (found : List Ruling) (steps steps' : List Step) (c : ℕ) (lower : Ruling) (count count' effort : ℕ) (rows rows' : List Ruling) →
    steps' ≡ steps → count' ≡ count → rows' ≡ rows → Walking m ch found steps c lower count effort rows → Walking m ch found steps' c lower count' effort rows'
moved m ch found steps steps' c lower count count' effort rows rows' d e f w =
    subst (λ (ss : List Step). Walking m ch found ss c lower count' effort rows') (sym d)
    (subst (λ (n : ℕ). Walking m ch found steps c lower n effort rows') (sym e) (subst (Walking m ch found steps c lower count effort) (sym f) w))

-- a walk that goes on at its last step
pub paused_at : (m : Meaning) (ch : ℕ → ℕ) (found : List Ruling) (front : List Step) (s : Step) (count effort : ℕ) (rows : List Ruling) →
    Walking m ch found front s.first s.lower count effort rows → Paused m ch found (front ++ s ∷ []) count effort rows
paused_at m ch found front s count effort rows w =
    record {
      budget = w.budget;
      going = λ front' s' e.
          let (fronts, steps) = same_from_push front front' s s' e in
          subst (λ (fs : List Step). Walking m ch found fs s'.first s'.lower count effort rows) fronts
          (subst (λ (t : Step). Walking m ch found front t.first t.lower count effort rows) steps w);
      done = λ e. absurd (omega (arith, ap length e, length_push front s));
    }

-- there are at most sixteen levels
few_levels : (m : Meaning) (ch : ℕ → ℕ) → length (levels m ch) ≤ 16
few_levels m ch = subst (λ (ks : List ℕ). length ks ≤ 16) (levels_below_all m ch) (levels_below_few m ch 16)

-- a level's points, and how many candidates it has
pub record Level (m : Meaning) (ch : ℕ → ℕ) (level : ℕ) (points : Ruling) (size : ℕ) : Type 0 where
  pub those : has points ≡ points_of m ch (get_or (levels m ch) level 0)
  pub many : size ≡ size_at m ch (levels m ch) level

-- as the code finds them, by the number of the level's chapter
module _ (m : Meaning) (ch : ℕ → ℕ) (level number width_is : ℕ) (is : number ≡ get_or (levels m ch) level 0) (wide : width_is ≡ width m ch number) where
  pub level_narrow : NoneWide m ch → level < length (levels m ch) → width_is ≤ 12
  level_narrow narrow within =
      let n = narrow (get_or (levels m ch) level 0) (level_holds m ch level within).0 in
      let f = wide ∙ ap (width m ch) is in
      omega arith

  pub level_of : (points : Ruling) (size : ℕ) → has points ≡ points_of m ch number → size ≡ 2 ^ width_is → Level m ch level points size
  level_of points size those many =
      record { those = those ∙ ap (points_of m ch) is; many = many ∙ ap (λ (n : ℕ). 2 ^ n) (wide ∙ ap (width m ch) is) }

-- a candidate is one of the level's, or past them
module _ (m : Meaning) (ch : ℕ → ℕ) (level : ℕ) (points : Ruling) (size c : ℕ) (h : Level m ch level points size) where
  pub one_more : c < size → c < size_at m ch (levels m ch) level
  one_more l = subst (λ (n : ℕ). c < n) h.many l

  pub no_more : size ≤ c → size_at m ch (levels m ch) level ≤ c
  no_more l = subst (λ (n : ℕ). n ≤ c) h.many l

and_true : (s t : Bool) → t ≡ true → s && t ≡ s
and_true true t e = e
and_true false t e = refl

points_agree : (m : Meaning) (ch : ℕ → ℕ) (k a : ℕ) → a < m.size → points_of m ch k a ≡ eqb (ch a) k
unfolding points_of
points_agree m ch k a h = and_true (eqb (ch a) k) (ltb a m.size) (lt-ltb a m.size h)

module _ (m : Meaning) (l : Lawful m) (ch : ℕ → ℕ) where
  -- a part tested over its chapter's points is tested in the chapter
  pub tested : (k : ℕ) (D U x : Points) (c : ℕ) (r : Bool) → D ≡ points_of m ch k → x ≡ spread (points_of m ch k) c →
      (r ≡ true) ↔ Stable (restricted m D U U) x → (r ≡ true) ↔ Stable (chapter m ch k U U) (spread (points_of m ch k) c)
  tested k D U x c r d e h = (
    (λ t. subst (Stable (chapter m ch k U U)) e (same_closure (restricted m D U U) (chapter m ch k U U) alike x x (h.0 t))),
    (λ s. h.1 (same_closure (chapter m ch k U U) (restricted m D U U) (sym alike) x x (subst (Stable (chapter m ch k U U)) (sym e) s))),
  )
    where
      alike : (restricted m D U U).derives ≡ (chapter m ch k U U).derives
      alike = restricted_alike m l D (λ a. eqb (ch a) k) U U (λ a q. ap (λ (y : Points). y a) d ∙ points_agree m ch k a q)

  module _ (few : Sixteen ch) where
    every : AllOnce (λ x. (k : ℕ) → k < 16 → PartStable m ch x k) (completed m ch (all_tries m ch))
    every = walk_completes m ch (stable_test m ch) l few (stable_test_tells m l ch)

    distinct : Distinct (completed m ch (all_tries m ch))
    distinct = from_places (λ (x y : Points). x ≡ y → ⊥) (completed m ch (all_tries m ch)) every.once

    effort_is : Effort m ch (length (all_tries m ch))
    effort_is = walk_effort m ch (stable_test m ch) l (stable_test_tells m l ch)

    in_row_order : (rows : List Ruling) → InRows (completed m ch (all_tries m ch)) rows → AllInRowOrder (AllPartsStable m ch) rows
    in_row_order rows f = listing_of m ch (completed m ch (all_tries m ch)) every rows f.strict f.only f.each

    -- the rulings found by the whole walk, in row order
    all_found : (n : ℕ) → n < length (completed m ch (all_tries m ch)) → MoreStable m ch n
    all_found n h =
        let (rows, f, long) = rows_for (completed m ch (all_tries m ch)) distinct small in
        (rows, in_row_order rows f, omega arith)
      where
        small : (x : Points) → ContainsAt (completed m ch (all_tries m ch)) x → (a : ℕ) → x a ≡ true → a < 128
        small x there a e =
            omega (arith, l.few_points, filled_inside m l ch 16 x (record { lower = λ b f. few b; stable = every.only x there }) a e)

    pub walk_start : (found : List Ruling) (s : Step) → s.first ≡ 0 → ((a : ℕ) → has s.lower a ≡ false) → Walking m ch found [] s.first s.lower 0 0 found
    unfolding completed picked
    walk_start found s first empty =
        record {
          picks = replicate 16 0;
          picks_long = refl;
          within = some_level m l ch few;
          budget = omega arith;
          reached = omega arith;
          counted = omega arith;
          left = rest_start m ch (stable_test m ch) (levels m ch) (replicate 16 0) (some_level m l ch few) ∙ ap (rest m ch (stable_test m ch) (levels m ch) (replicate 16 0) 0) (sym first);
          over = fun_ext empty;
          aside = λ j d h. absurd (omega arith);
          number = refl;
          kept = kept_none found;
        }

    module _ (found : List Ruling) (steps : List Step) (c : ℕ) (lower : Ruling) (count effort : ℕ) (rows : List Ruling)
        (w : Walking m ch found steps c lower count effort rows) where
      -- a candidate tried, over the points of its level
      module _ (points part : Ruling) (size : ℕ) (h : Level m ch (length steps) points size) (part_is : has part ≡ spread (has points) c) where
        spreads : has part ≡ spread (points_of m ch (get_or (levels m ch) (length steps) 0)) c
        spreads = part_is ∙ ap (λ (D : Points). spread D c) h.those

        -- whether it is stable
        pub told : (stable : Bool) → (stable ≡ true) ↔ Stable (restricted m (has points) (has lower) (has lower)) (has part) →
            stable ≡ passes_at m ch (stable_test m ch) (levels m ch) w.picks (length steps) c
        told stable decides =
            stable_test_is m l ch (get_or (levels m ch) (length steps) 0) (picked m ch (levels m ch) w.picks (length steps)) c stable
            (tested (get_or (levels m ch) (length steps) 0) (has points) (picked m ch (levels m ch) w.picks (length steps)) (has part) c stable h.those spreads
            (subst (λ (U : Points). (stable ≡ true) ↔ Stable (restricted m (has points) U U) (has part)) w.over decides))

        -- the ruling that it makes with the lower part
        pub joined : (ruling : Ruling) → ((a : ℕ) → has ruling a ≡ has lower a || has part a) →
            has ruling ≡ with_candidate m ch (get_or (levels m ch) (length steps) 0) (picked m ch (levels m ch) w.picks (length steps)) c
        joined ruling joins = fun_ext (λ a. joins a ∙ ap₂ ◌||◌ (ap (λ (x : Points). x a) w.over) (ap (λ (x : Points). x a) spreads))

      -- no candidate is left
      module _ (q : size_at m ch (levels m ch) (length steps) ≤ c) where
        -- back to the last step set aside
        back : (front : List Step) (s : Step) → steps ≡ front ++ s ∷ [] → Walking m ch found front s.first s.lower count effort rows
        back front s e =
            record {
              picks = w.picks;
              picks_long = w.picks_long;
              within = omega (arith, long, w.within);
              budget = w.budget;
              reached = w.reached;
              counted = w.counted;
              left =
                  w.left ∙ (rest_back m ch (stable_test m ch) (levels m ch) w.picks (length steps) c (omega (arith, long)) q
                  ∙ (ap (λ (j : ℕ). rest m ch (stable_test m ch) (levels m ch) w.picks j (get_or w.picks j 0 + 1)) below
                  ∙ ap (rest m ch (stable_test m ch) (levels m ch) w.picks (length front)) (sym last.0)));
              over = last.1;
              aside = λ j d h.
                  subst (λ (t : Step). (t.first ≡ get_or w.picks j 0 + 1) × (has t.lower ≡ picked m ch (levels m ch) w.picks j))
                  (ap (λ (ss : List Step). get_or ss j d) e ∙ get_or_append_left front (s ∷ []) d j h) (w.aside j d (omega (arith, long)));
              number = w.number;
              kept = w.kept;
            }
          where
            long : length steps ≡ length front + 1
            long = ap length e ∙ length_push front s

            below : length steps - 1 ≡ length front
            below = omega (arith, long)

            last : (s.first ≡ get_or w.picks (length front) 0 + 1) × (has s.lower ≡ picked m ch (levels m ch) w.picks (length front))
            last =
                subst (λ (t : Step). (t.first ≡ get_or w.picks (length front) 0 + 1) × (has t.lower ≡ picked m ch (levels m ch) w.picks (length front)))
                (ap (λ (ss : List Step). get_or ss (length front) s) e ∙ get_or_push front s s (length front) refl) (w.aside (length front) s (omega (arith, long)))

        -- or the walk is done
        none_aside : steps ≡ [] → Walked m ch found (record { rows = count; effort = effort }) rows
        none_aside z =
            record {
              as_long = w.kept.as_long;
              past = λ h. absurd (omega (arith, w.budget));
              spent = λ h. subst (Effort m ch) (sym done) effort_is;
              listed = λ h room. (in_row_order (take count rows) (subst (λ (xs : List Points). InRows xs (take count rows)) same (w.kept.first (omega (arith, w.kept.as_long)))), w.kept.later);
              more = λ h full. all_found (length found) (let n = w.number in let e = ap length same in omega arith);
            }
          where
            lowest : length steps ≡ 0
            lowest = ap length z

            done : effort ≡ length (all_tries m ch)
            done =
                none_left (all_tries m ch) effort w.reached
                (w.left ∙ (ap (λ (j : ℕ). rest m ch (stable_test m ch) (levels m ch) w.picks j c) lowest
                ∙ rest_end m ch (stable_test m ch) (levels m ch) w.picks c (subst (λ (j : ℕ). size_at m ch (levels m ch) j ≤ c) lowest q)))

            same : completed m ch (take effort (all_tries m ch)) ≡ completed m ch (all_tries m ch)
            same = ap (completed m ch) (take_all effort (all_tries m ch) (let e = done in omega arith))

        pub walk_back : Paused m ch found steps count effort rows
        walk_back = record { budget = w.budget; going = back; done = none_aside }

      module _ (more : c < size_at m ch (levels m ch) (length steps)) where
        in_picks : length steps < length w.picks
        in_picks = let n = few_levels m ch in omega (arith, w.within, w.picks_long)

        -- a candidate that is not stable
        module _ (fails : passes_at m ch (stable_test m ch) (levels m ch) w.picks (length steps) c ≡ false) where
          miss : Next (all_tries m ch) effort (try_at m ch (stable_test m ch) (levels m ch) w.picks (length steps) c) (rest m ch (stable_test m ch) (levels m ch) w.picks (length steps) (c + 1))
          miss = next_of (all_tries m ch) effort _ _ (w.left ∙ rest_miss m ch (stable_test m ch) (levels m ch) w.picks (length steps) c more fails)

          same_so_far : completed m ch (take (effort + 1) (all_tries m ch)) ≡ completed m ch (take effort (all_tries m ch))
          same_so_far = completed_same m ch (all_tries m ch) effort _ _ miss (miss_completes m ch (stable_test m ch) (levels m ch) w.picks (length steps) c fails)

          pub walk_miss : effort < 65536 → Walking m ch found steps (c + 1) lower count (effort + 1) rows
          walk_miss room =
              record {
                picks = w.picks;
                picks_long = w.picks_long;
                within = w.within;
                budget = omega arith;
                reached = omega (arith, miss.inside);
                counted = omega (arith, w.counted);
                left = miss.dropped;
                over = w.over;
                aside = w.aside;
                number = w.number ∙ ap length (sym same_so_far);
                kept = subst (λ (xs : List Points). Kept xs count found rows) (sym same_so_far) w.kept;
              }

        -- a stable candidate, with the ruling that it makes
        module _ (passed : passes_at m ch (stable_test m ch) (levels m ch) w.picks (length steps) c ≡ true) (ruling : Ruling)
            (is : has ruling ≡ with_candidate m ch (get_or (levels m ch) (length steps) 0) (picked m ch (levels m ch) w.picks (length steps)) c) where
          -- below the last level: the step is set aside, and the walk goes up one level
          module _ (higher : length steps + 1 < length (levels m ch)) where
            climb : Next (all_tries m ch) effort (try_at m ch (stable_test m ch) (levels m ch) w.picks (length steps) c) (rest m ch (stable_test m ch) (levels m ch) (set w.picks (length steps) c) (length steps + 1) 0)
            climb = next_of (all_tries m ch) effort _ _ (w.left ∙ rest_climb m ch (stable_test m ch) (levels m ch) w.picks (length steps) c more passed higher in_picks)

            nothing_new : completed m ch (take (effort + 1) (all_tries m ch)) ≡ completed m ch (take effort (all_tries m ch))
            nothing_new = completed_same m ch (all_tries m ch) effort _ _ climb (climb_completes m ch (stable_test m ch) (levels m ch) w.picks (length steps) c higher)

            pub walk_climb : effort < 65536 → Walking m ch found (steps ++ record { first = c + 1; lower = lower } ∷ []) 0 ruling count (effort + 1) rows
            walk_climb room =
                record {
                  picks = set w.picks (length steps) c;
                  picks_long = length-set w.picks (length steps) c ∙ w.picks_long;
                  within = omega (arith, one_more_step);
                  budget = omega arith;
                  reached = omega (arith, climb.inside);
                  counted = omega (arith, w.counted);
                  left = climb.dropped ∙ ap (λ (j : ℕ). rest m ch (stable_test m ch) (levels m ch) (set w.picks (length steps) c) j 0) (sym one_more_step);
                  over =
                      is ∙ (sym (picked_more m ch (stable_test m ch) (levels m ch) w.picks (length steps) c in_picks)
                      ∙ ap (picked m ch (levels m ch) (set w.picks (length steps) c)) (sym one_more_step));
                  aside = λ j d h. elim (cases_lt j (length steps)) [
                    | inl b ↦
                        subst (λ (t : Step). (t.first ≡ get_or (set w.picks (length steps) c) j 0 + 1) × (has t.lower ≡ picked m ch (levels m ch) (set w.picks (length steps) c) j))
                        (sym (get_or_append_left steps (set_aside ∷ []) d j b)) (
                          (w.aside j d b).0 ∙ ap (λ (n : ℕ). n + 1) (sym (get_or-set_other w.picks (length steps) j c 0 (λ e. omega arith))),
                          (w.aside j d b).1 ∙ sym (picked_set m ch (stable_test m ch) (levels m ch) w.picks (length steps) c j (omega arith)),
                        )
                    | inr b ↦
                        let e : j ≡ length steps = omega (arith, one_more_step) in
                        subst (λ (i : ℕ). ((get_or (steps ++ set_aside ∷ []) i d).first ≡ get_or (set w.picks (length steps) c) i 0 + 1) × (has (get_or (steps ++ set_aside ∷ []) i d).lower ≡ picked m ch (levels m ch) (set w.picks (length steps) c) i)) (sym e)
                        (subst (λ (t : Step). (t.first ≡ get_or (set w.picks (length steps) c) (length steps) 0 + 1) × (has t.lower ≡ picked m ch (levels m ch) (set w.picks (length steps) c) (length steps)))
                        (sym (get_or_push steps set_aside d (length steps) refl)) (
                          ap (λ (n : ℕ). n + 1) (sym (get_or-set_same w.picks (length steps) c 0 in_picks)),
                          w.over ∙ sym (picked_set m ch (stable_test m ch) (levels m ch) w.picks (length steps) c (length steps) (omega arith)),
                        ))
                  ];
                  number = w.number ∙ ap length (sym nothing_new);
                  kept = subst (λ (xs : List Points). Kept xs count found rows) (sym nothing_new) w.kept;
                }
              where
                set_aside : Step
                set_aside = record { first = c + 1; lower = lower }

                one_more_step : length (steps ++ set_aside ∷ []) ≡ length steps + 1
                one_more_step = length_push steps set_aside

          -- at the last level: one more ruling is found
          module _ (top : length (levels m ch) ≤ length steps + 1) where
            hit : Next (all_tries m ch) effort (try_at m ch (stable_test m ch) (levels m ch) w.picks (length steps) c) (rest m ch (stable_test m ch) (levels m ch) w.picks (length steps) (c + 1))
            hit = next_of (all_tries m ch) effort _ _ (w.left ∙ rest_hit m ch (stable_test m ch) (levels m ch) w.picks (length steps) c more passed top)

            one_ruling_more : completed m ch (take (effort + 1) (all_tries m ch)) ≡ completed m ch (take effort (all_tries m ch)) ++ has ruling ∷ []
            one_ruling_more =
                completed_more m ch (all_tries m ch) effort _ _ hit (hit_completes m ch (stable_test m ch) (levels m ch) w.picks (length steps) c passed top)
                ∙ ap (λ (x : Points). completed m ch (take effort (all_tries m ch)) ++ x ∷ []) (sym is)

            new : ContainsAt (completed m ch (take effort (all_tries m ch))) (has ruling) → ⊥
            new =
                not_earlier (completed m ch (take effort (all_tries m ch))) (completed m ch (drop (effort + 1) (all_tries m ch))) (has ruling)
                (subst Distinct
                (ap (completed m ch) (sym (take-append-drop (effort + 1) (all_tries m ch)))
                ∙ (completed_append m ch (take (effort + 1) (all_tries m ch)) (drop (effort + 1) (all_tries m ch))
                ∙ (ap (λ (xs : List Points). xs ++ completed m ch (drop (effort + 1) (all_tries m ch))) one_ruling_more
                ∙ append_assoc (completed m ch (take effort (all_tries m ch))) (has ruling ∷ []) (completed m ch (drop (effort + 1) (all_tries m ch))))))
                distinct)

            pub walk_hit : effort < 65536 → (r : Option ℕ) (rows' : List Ruling) → length rows' ≡ length rows → Inserted Precedes rows count ruling r rows' →
                Walking m ch found steps (c + 1) lower (count + 1) (effort + 1) rows'
            walk_hit room r rows' long inserted =
                record {
                  picks = w.picks;
                  picks_long = w.picks_long;
                  within = w.within;
                  budget = omega arith;
                  reached = omega (arith, hit.inside);
                  counted = omega (arith, w.counted);
                  left = hit.dropped;
                  over = w.over;
                  aside = w.aside;
                  number = sym (ap length one_ruling_more ∙ (length_push (completed m ch (take effort (all_tries m ch))) (has ruling) ∙ ap (λ (n : ℕ). n + 1) (sym w.number)));
                  kept = subst (λ (xs : List Points). Kept xs (count + 1) found rows') (sym one_ruling_more)
                      (kept_more (completed m ch (take effort (all_tries m ch))) count found rows rows' (has ruling) ruling r refl new long inserted w.kept);
                }

        -- a try is left
        pub walk_inside : effort < length (all_tries m ch)
        walk_inside =
            elim (cases_Bool (passes_at m ch (stable_test m ch) (levels m ch) w.picks (length steps) c)) [
              | inr e ↦ (miss e).inside
              | inl e ↦ elim (cases_lt (length steps + 1) (length (levels m ch))) [
                | inl h ↦
                    (next_of (all_tries m ch) effort (try_at m ch (stable_test m ch) (levels m ch) w.picks (length steps) c)
                    (rest m ch (stable_test m ch) (levels m ch) (set w.picks (length steps) c) (length steps + 1) 0)
                    (w.left ∙ rest_climb m ch (stable_test m ch) (levels m ch) w.picks (length steps) c more e h in_picks)).inside
                | inr h ↦
                    (next_of (all_tries m ch) effort (try_at m ch (stable_test m ch) (levels m ch) w.picks (length steps) c)
                    (rest m ch (stable_test m ch) (levels m ch) w.picks (length steps) (c + 1))
                    (w.left ∙ rest_hit m ch (stable_test m ch) (levels m ch) w.picks (length steps) c more e h)).inside
              ]
            ]

        -- so past the ceiling the effort is above it
        pub walk_past : 65536 < effort + 1 → Walked m ch found (record { rows = count; effort = effort + 1 }) rows
        walk_past h =
            record {
              as_long = w.kept.as_long;
              past = λ _. (length (all_tries m ch), effort_is, let i = walk_inside in omega arith);
              spent = λ q. absurd (omega arith);
              listed = λ q. absurd (omega arith);
              more = λ q. absurd (omega arith);
            }
