-- Each turn of the walk is one of its steps.
use Rattle.std.proofs.Common.{◌≡◌, ℕ, ◌+◌, List, [], ◌∷◌, ◌++◌, length, get_or, sym, refl, ap, ◌∙◌, subst, ap₂, arith}
use Rattle.rulings.specs.Rulings.{has}
use Rattle.semantics.specs.Walk.{levels}
use Rattle.marker.specs.declared.marker.listing.Step.{Step}
use Rattle.marker.specs.State.{book_of, placing}
use Rattle.marker.proofs.Walking.{Paused, paused_at, level_narrow, level_of, one_more, no_more, walk_start, told, joined, walk_back, walk_miss, walk_climb, walk_hit, walk_past}
use Rattle.marker.proofs.marker.Marker.walk.Goals as goal

-- the chapter of a level, read from the levels kept
read_at : (ks read levels : List ℕ) (i level : ℕ) → ks ≡ levels → read ≡ ks → i ≡ level → get_or read i 0 ≡ get_or levels level 0
read_at ks read levels i level e f h = ap₂ (λ (xs : List ℕ) (j : ℕ). get_or xs j 0) (f ∙ e) h

pub walk-init : goal.walk-init
walk-init g c =
    let s = c.args.self.now in
    let m = g.B.Book.meaning (book_of s) in
    let rows = c.args.rows.now in
    let first = c.over.result in
    subst (λ (ss : List Step). Paused m (placing s) rows ss 0 0 rows) (sym (c.push.ensures.items ∙ ap (λ (ss : List Step). ss ++ first ∷ []) c.new-steps.ensures))
    (paused_at m (placing s) rows [] first 0 0 rows (walk_start m (g.met.B.Book.lawful (book_of s)) (placing s) s.sixteen rows first
    (ap (λ (t : Step). t.first) c.over.ensures) (λ a. ap (λ (t : Step). has t.lower a) c.over.ensures ∙ c.empty.ensures a)))

pub subsets-candidate-end-requires : goal.subsets-candidate-end-requires
subsets-candidate-end-requires g c =
    let s = c.args.self.now in
    let m = g.B.Book.meaning (book_of s) in
    let level = length c.pop.new.self.items in
    let at = c.walk.invariant.going c.pop.new.self.items c.in-Some.field-0 c.in-Some.ensures.items in
    level_narrow m (placing s) level _ c.width.result (read_at _ _ (levels m (placing s)) _ level c.levels-levels.ensures c.deref.ensures.0 c.len.ensures.value)
    c.width.ensures c.requires at.within

pub loop-candidate-init : goal.loop-candidate-init
loop-candidate-init g c =
    let s = c.args.self.now in
    let m = g.B.Book.meaning (book_of s) in
    let level = length c.pop.new.self.items in
    record {
      at = c.walk.invariant.going c.pop.new.self.items c.in-Some.field-0 c.in-Some.ensures.items;
      level =
          level_of m (placing s) level _ c.width.result (read_at _ _ (levels m (placing s)) _ level c.levels-levels.ensures c.deref.ensures.0 c.len.ensures.value)
          c.width.ensures c.points_in-points.result c.subsets-candidate-end.result c.points_in-points.ensures c.subsets-candidate-end.ensures.0;
      same = refl;
      spent = omega arith;
    }

pub walk-preserved : goal.walk-preserved
walk-preserved g c =
    let s = c.args.self.now in
    let m = g.B.Book.meaning (book_of s) in
    let l = c.loop-candidate in
    walk_back m (g.met.B.Book.lawful (book_of s)) (placing s) s.sixteen c.args.rows.now l.steps.items l.candidate c.in-Some.field-0.lower l.count l.effort l.rows l.invariant.at
    (no_more m (placing s) (length l.steps.items) c.points_in-points.result c.subsets-candidate-end.result l.candidate l.invariant.level c.loop-candidate-test.false)

pub loop-candidate-preserved-then-not-is_stable_over : goal.loop-candidate-preserved-then-not-is_stable_over
loop-candidate-preserved-then-not-is_stable_over g c =
    let s = c.args.self.now in
    let m = g.B.Book.meaning (book_of s) in
    let few = g.met.B.Book.lawful (book_of s) in
    let l = c.loop-candidate in
    let h = l.invariant in
    let lower = c.in-Some.field-0.lower in
    let points = c.points_in-points.result in
    let size = c.subsets-candidate-end.result in
    let tells =
    told m few (placing s) s.sixteen c.args.rows.now l.steps.items l.candidate lower l.count l.effort l.rows h.at points c.spread-part.result size h.level
    c.spread-part.ensures c.is_stable_over.result c.is_stable_over.ensures in
    record {
      at =
          walk_miss m few (placing s) s.sixteen c.args.rows.now l.steps.items l.candidate lower l.count l.effort l.rows h.at
          (one_more m (placing s) (length l.steps.items) points size l.candidate h.level c.loop-candidate-test.true)
          (sym tells ∙ c.if-not-is_stable_over.true) (omega (arith, c.if-effort-gt-CEILING.false));
      level = h.level;
      same = h.same;
      spent = omega (arith, h.spent);
    }

pub loop-candidate-preserved : goal.loop-candidate-preserved
loop-candidate-preserved g c =
    let s = c.args.self.now in
    let m = g.B.Book.meaning (book_of s) in
    let few = g.met.B.Book.lawful (book_of s) in
    let l = c.loop-candidate in
    let h = l.invariant in
    let lower = c.in-Some.field-0.lower in
    let points = c.points_in-points.result in
    let size = c.subsets-candidate-end.result in
    let tells =
    told m few (placing s) s.sixteen c.args.rows.now l.steps.items l.candidate lower l.count l.effort l.rows h.at points c.spread-part.result size h.level
    c.spread-part.ensures c.is_stable_over.result c.is_stable_over.ensures in
    let is =
    joined m few (placing s) s.sixteen c.args.rows.now l.steps.items l.candidate lower l.count l.effort l.rows h.at points c.spread-part.result size h.level
    c.spread-part.ensures c.union-ruling.result c.union-ruling.ensures in
    record {
      at =
          walk_hit m few (placing s) s.sixteen c.args.rows.now l.steps.items l.candidate lower l.count l.effort l.rows h.at
          (one_more m (placing s) (length l.steps.items) points size l.candidate h.level c.loop-candidate-test.true)
          (sym tells ∙ c.if-not-is_stable_over.false) c.union-ruling.result is
          (let n = ap length c.levels-levels.ensures in omega (arith, c.if-len.false, c.len-in-loop-candidate.ensures.value, c.len-in-loop-candidate-2.ensures.value))
          (omega (arith, c.if-effort-gt-CEILING.false)) c.insert_in_order.result c.insert_in_order.new.rows c.insert_in_order.auto.rows c.insert_in_order.ensures;
      level = h.level;
      same = h.same;
      spent = omega (arith, h.spent);
    }

pub walk-preserved-then-len : goal.walk-preserved-then-len
walk-preserved-then-len g c =
    let s = c.args.self.now in
    let m = g.B.Book.meaning (book_of s) in
    let few = g.met.B.Book.lawful (book_of s) in
    let l = c.loop-candidate in
    let h = l.invariant in
    let lower = c.in-Some.field-0.lower in
    let points = c.points_in-points.result in
    let size = c.subsets-candidate-end.result in
    let tells =
    told m few (placing s) s.sixteen c.args.rows.now l.steps.items l.candidate lower l.count l.effort l.rows h.at points c.spread-part.result size h.level
    c.spread-part.ensures c.is_stable_over.result c.is_stable_over.ensures in
    let is =
    joined m few (placing s) s.sixteen c.args.rows.now l.steps.items l.candidate lower l.count l.effort l.rows h.at points c.spread-part.result size h.level
    c.spread-part.ensures c.union-ruling.result c.union-ruling.ensures in
    let aside : Step = record { first = l.candidate + 1; lower = lower } in
    let next : Step = record { first = 0; lower = c.union-ruling.result } in
    subst (λ (ss : List Step). Paused m (placing s) c.args.rows.now ss l.count (l.effort + 1) l.rows)
    (sym (c.push-then-len-2.ensures.items ∙ ap₂ (λ (ss : List Step) (t : Step). ss ++ t ∷ []) c.push-then-len.ensures.items c.over-then-len.ensures))
    (paused_at m (placing s) c.args.rows.now (l.steps.items ++ aside ∷ []) next l.count (l.effort + 1) l.rows
    (walk_climb m few (placing s) s.sixteen c.args.rows.now l.steps.items l.candidate lower l.count l.effort l.rows h.at
    (one_more m (placing s) (length l.steps.items) points size l.candidate h.level c.loop-candidate-test.true)
    (sym tells ∙ c.if-not-is_stable_over.false) c.union-ruling.result is
    (let n = ap length c.levels-levels.ensures in omega (arith, c.if-len.true, c.len-in-loop-candidate.ensures.value, c.len-in-loop-candidate-2.ensures.value))
    (omega (arith, c.if-effort-gt-CEILING.false))))

pub returns-then-effort-gt-CEILING : goal.returns-then-effort-gt-CEILING
returns-then-effort-gt-CEILING g c =
    let s = c.args.self.now in
    let m = g.B.Book.meaning (book_of s) in
    let l = c.loop-candidate in
    walk_past m (g.met.B.Book.lawful (book_of s)) (placing s) s.sixteen c.args.rows.now l.steps.items l.candidate c.in-Some.field-0.lower l.count l.effort l.rows l.invariant.at
    (one_more m (placing s) (length l.steps.items) c.points_in-points.result c.subsets-candidate-end.result l.candidate l.invariant.level c.loop-candidate-test.true) c.if-effort-gt-CEILING.true
