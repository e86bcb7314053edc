-- The published definitions for ground normal programs, over rules alone: reduct, least model, stable model,
-- the least precise fixpoint of the stable operator on pairs, and the partial evaluation of a chapter.
-- The entries of a rule book are a program.
use Rattle.std.specs.Prelude.{◌≡◌, ℕ, true, List}
use Rattle.std.specs.List.{Any}
use Rattle.rulings.specs.Points.{Points, Part, Disjoint}
use Rattle.rulings.specs.Rulings.{has}
use Rattle.semantics.specs.Chapters.{in_chapter, below_chapter}
use Rattle.books.specs.declared.entry.Entry.{Entry}

-- a normal rule: the head holds if all of the positive body does and none of the negative body
pub record Rule : Type 0 where
  pub head : ℕ
  pub positive : Points
  pub negative : Points

-- a normal program, as a set of rules
abbrev pub Program : Type 1
Program = Rule → Type 0

-- a definite rule: the head holds if the whole body does
pub record DefiniteRule : Type 0 where
  pub head : ℕ
  pub body : Points

-- a definite program, as a set of rules
abbrev pub DefiniteProgram : Type 1
DefiniteProgram = DefiniteRule → Type 0

-- the reduct by Y: every rule that no point of Y blocks, without its negative body
abbrev pub reduct : Program → Points → DefiniteProgram
reduct P Y d = (r : Rule) × P r × Disjoint r.negative Y × (d ≡ record { head = r.head; body = r.positive })

-- M is a model: it has the head of every rule whose body it has
abbrev pub Model : DefiniteProgram → Points → Type 0
Model D M = (d : DefiniteRule) → D d → Part d.body M → M d.head ≡ true

-- M is the least model
pub record LeastModel (D : DefiniteProgram) (M : Points) : Type 0 where
  pub model : Model D M
  pub least : (N : Points) → Model D N → Part M N

-- Y is a stable model: the least model of the reduct by itself
abbrev pub StableModel : Program → Points → Type 0
StableModel P Y = LeastModel (reduct P Y) Y

-- (S, Q) is a fixpoint of the stable operator on pairs: each is the least model of the reduct by the other
abbrev pub StablePair : Program → Points → Points → Type 0
StablePair P S Q = LeastModel (reduct P Q) S × LeastModel (reduct P S) Q

-- the least precise of these fixpoints (the well-founded model): every other has more in S and less in Q
pub record LeastPrecisePair (P : Program) (S Q : Points) : Type 0 where
  pub fixpoint : StablePair P S Q
  pub least_precise : (S' Q' : Points) → StablePair P S' Q' → Part S S' × Part Q' Q

-- the rule of an entry
abbrev pub rule_of : Entry → Rule
rule_of e = record { head = e.point; positive = has e.supporters; negative = has e.strikers }

-- the program of a list of entries: the rules of its entries
abbrev pub program_of : List Entry → Program
program_of es r = Any (λ e. r ≡ rule_of e) es

-- The partial evaluation of chapter k by (U, V): the rules of the chapter's points whose lower positive body is in U
-- and whose lower negative body has no point in V, each cut to its points in the chapter.
abbrev pub evaluated : (ℕ → ℕ) → ℕ → Points → Points → Program → Program
evaluated ch k U V P r =
    (s : Rule) × P s × (ch s.head ≡ k) × Part (below_chapter ch k s.positive) U × Disjoint (below_chapter ch k s.negative) V
    × (r ≡ record { head = s.head; positive = in_chapter ch k s.positive; negative = in_chapter ch k s.negative })

-- point a derives under (x, y) by some rule of the program
abbrev pub Derives : Program → Points → Points → ℕ → Type 0
Derives P x y a = (r : Rule) × P r × (r.head ≡ a) × Part r.positive x × Disjoint r.negative y
