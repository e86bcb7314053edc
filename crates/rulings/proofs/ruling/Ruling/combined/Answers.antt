use Rattle.std.proofs.Common.{rules, arith, inl, inr}
use Rattle.std.proofs.lemmas.Bool.{cases_lt}
use Rattle.std.proofs.lemmas.List.{get_or_past}
use Rattle.rulings.specs.Rulings.{byte}
use Rattle.rulings.proofs.FromFn.{from_fn_at}
use Rattle.rulings.proofs.ruling.Ruling.combined.Goals as goal

pub invariant_of-result : goal.invariant_of-result
invariant_of-result g c = record {
  long = c.from_fn-bytes.ensures.items.long;
  each = λ i. elim (cases_lt i 16) [
    | inl h ↦ search rules
    | inr h ↦ omega (arith, get_or_past c.from_fn-bytes.result i 0 (omega (arith, c.from_fn-bytes.ensures.items.long)))
  ];
}

pub returns : goal.returns
returns g c i h = from_fn_at _ _ (λ i y. goal.F-post g c.args.operator (byte c.args.self i) (byte c.args.other i) y) (λ i y q k. search rules) _ _ c.from_fn-bytes.ensures.items.each i 0 h
