use Rattle.std.proofs.Common.{◌≡◌, ℕ, ◌≤◌, ◌&&◌, eqb, ltb, ap, ◌∙◌, refl, inl, inr, arith}
use Rattle.std.proofs.lemmas.Bool.{cases_lt, lt-ltb, le-ltb}
use Rattle.std.proofs.Math.Bool.{and_comm}
use mathlib.Core.Path.{fun_ext}
use Rattle.rulings.specs.Points.{Points}
use Rattle.semantics.specs.Meaning.{Meaning}
use Rattle.semantics.specs.Walk.{points_of}
use Rattle.marker.specs.State.{book_of, placing}
use Rattle.marker.proofs.marker.Marker.points_in.Goals as goal

those : (m : Meaning) (ch : ℕ → ℕ) (k n : ℕ) (z : Points) → n ≡ m.size → n ≤ 128 → ((a : ℕ) → z a ≡ ltb a n && (ltb a 128 && eqb (ch a) k)) → z ≡ points_of m ch k
unfolding points_of
those m ch k n z size small is =
    fun_ext (λ a. is a ∙ (low a ∙ (and_comm (ltb a n) (eqb (ch a) k) ∙ ap (λ (i : ℕ). eqb (ch a) k && ltb a i) size)))
  where
    low : (a : ℕ) → ltb a n && (ltb a 128 && eqb (ch a) k) ≡ ltb a n && eqb (ch a) k
    low a =
        elim (cases_lt a n) [
          | inl h ↦ rw (lt-ltb a 128 (omega arith)) refl
          | inr h ↦ rw (le-ltb a n h) refl
        ]

pub returns : goal.returns
returns g c =
    let s = c.args.self.now in
    those (g.B.Book.meaning (book_of s)) (placing s) c.args.number c.size.result _ c.size.ensures
    (omega (arith, (g.met.B.Book.lawful (book_of s)).few_points, c.size.ensures)) c.points_below.ensures
