-- A point leaves the list for the subset if its digit is 1.
use Rattle.std.proofs.Common.{rules, arith, List, inl, inr, ap, ◌∙◌, subst, ◌≡◌, ℕ, bit_and, ◌/◌, ◌^◌}
use Rattle.rulings.specs.Rulings.{has}
use Rattle.chapters.proofs.Spreading.{chosen, all_chosen, none_chosen, all_decided, chosen_in, chosen_out}
use Rattle.chapters.proofs.candidates.spread.Goals as goal

pub loop-point-init : goal.loop-point-init
loop-point-init c =
    (search rules, λ a l. let all = all_chosen c.args.points c.args.number a l in search rules)

pub loop-point-preserved-then-number-digit-eq1 : goal.loop-point-preserved-then-number-digit-eq1
loop-point-preserved-then-number-digit-eq1 c =
    let (end, so_far) = c.loop-point.invariant in
    let (list, (same_end, (_, here, next))) = c.in-Some.ensures.steps in (
      same_end ∙ end,
      λ a l. chosen_in c.args.number _ _ _ _ c.in-Some.point a list next (has c.loop-point.subset a) (has c.insert.new.self a) l
          (subst (λ (k : ℕ). bit_and (c.args.number / 2 ^ k) 1 ≡ 1) here c.if-number-digit-eq1.true) (c.insert.ensures a) ∙ so_far a l,
    )

pub loop-point-preserved : goal.loop-point-preserved
loop-point-preserved c =
    let (end, so_far) = c.loop-point.invariant in
    let (list, (same_end, (_, here, next))) = c.in-Some.ensures.steps in (
      same_end ∙ end,
      λ a l. chosen_out c.args.number _ _ _ _ c.in-Some.point a list next (has c.loop-point.subset a)
          (subst (λ (k : ℕ). bit_and (c.args.number / 2 ^ k) 1 ≡ 1 → ⊥) here c.if-number-digit-eq1.false) ∙ so_far a l,
    )

pub returns : goal.returns
returns c =
    all_decided c.args.points c.loop-point.subset c.args.number _ _
    (λ a. elim c.in-None.ensures.steps [
      | inl (_, none) ↦ ap (λ (ps : List ℕ). chosen c.args.number c.loop-point.point-iterator.b.start ps a) none.0
      | inr (_, none) ↦ none_chosen c.args.number _ _ a c.ranges.number.fits (let end = c.loop-point.invariant.0 in let gone = none.1.0 in omega arith)
    ])
    c.loop-point.invariant.1
