-- A chapter is a level if it holds a point.
use Rattle.std.proofs.Common.{◌≡◌, ℕ, ◌+◌, ◌<◌, ◌≤◌, not, List, [], ◌∷◌, ◌++◌, length, sym, ap, ◌∙◌, arith, eq-eqb, ne_eqb}
use Rattle.semantics.specs.Meaning.{Meaning}
use Rattle.semantics.specs.Listing.{width}
use Rattle.semantics.specs.Walk.{levels}
use Rattle.semantics.proofs.Levels.{levels_below, levels_below_zero, levels_below_all, levels_below_few, levels_below_more, levels_below_same}
use Rattle.marker.specs.State.{book_of, placing}
use Rattle.marker.proofs.marker.Marker.levels.Goals as goal
use Rattle.marker.proofs.marker.Marker.levels.Goals.{then-width-gt0, else-width-gt0}

module _ (m : Meaning) (ch : ℕ → ℕ) (xs : List ℕ) (n : ℕ) (so : xs ≡ levels_below m ch n) where
  room : n < 16 → length xs < 16
  room h = omega (arith, ap length so, levels_below_few m ch n)

  holds_more : (ys : List ℕ) (w : ℕ) → ys ≡ xs ++ n ∷ [] → w ≡ width m ch n → 0 < w → ys ≡ levels_below m ch (n + 1)
  holds_more ys w pushed is some =
      pushed ∙ (ap (λ (ks : List ℕ). ks ++ n ∷ []) so ∙ sym (levels_below_more m ch n (ap not (ne_eqb (width m ch n) 0 (λ e. absurd (omega arith))))))

  holds_none : (w : ℕ) → w ≡ width m ch n → w ≤ 0 → xs ≡ levels_below m ch (n + 1)
  holds_none w is none = so ∙ sym (levels_below_same m ch n (ap not (eq-eqb (width m ch n) 0 (omega arith))))

  all : n ≡ 16 → xs ≡ levels m ch
  all e = so ∙ (ap (levels_below m ch) e ∙ levels_below_all m ch)

pub loop-number-init : goal.loop-number-init
loop-number-init g c =
    let s = c.args.self.now in
    c.new-levels.ensures ∙ sym (levels_below_zero (g.B.Book.meaning (book_of s)) (placing s))

pub push-requires : goal.push-requires
push-requires g c =
    let s = c.args.self.now in
    (omega arith, room (g.B.Book.meaning (book_of s)) (placing s) c.loop-number.levels.items c.loop-number.number c.loop-number.invariant c.loop-number-test.true)

pub loop-number-preserved : goal.loop-number-preserved
loop-number-preserved g c =
    let s = c.args.self.now in
    let m = g.B.Book.meaning (book_of s) in
    let ch : ℕ → ℕ = placing s in
    let n = c.loop-number.number in
    let xs = c.loop-number.levels.items in
    elim c.if-width-gt0.branch [
      | then-width-gt0 w ↦
          ap (λ v. v.items) w.levels-is ∙ holds_more m ch xs n c.loop-number.invariant w.push.new.self.items c.width.result w.push.ensures.items c.width.ensures w.if-width-gt0.true
      | else-width-gt0 w ↦
          ap (λ v. v.items) w.levels-is ∙ holds_none m ch xs n c.loop-number.invariant c.width.result c.width.ensures w.if-width-gt0.false
    ]

pub returns : goal.returns
returns g c =
    let s = c.args.self.now in
    all (g.B.Book.meaning (book_of s)) (placing s) c.loop-number.levels.items c.loop-number.number c.loop-number.invariant (omega arith)
