-- The row order: lexicographic, by bytes. And orders at large.
use Rattle.std.specs.Prelude.{◌≡◌, ℕ, ◌<◌, ◌⊎◌, ◌↔◌}
use Rattle.std.specs.declared.cmp.Ordering.{Ordering}
use Rattle.std.specs.declared.cmp.Ordering.TheVariants.{Less, Equal}
use Rattle.rulings.specs.Rulings.{byte}
use Rattle.rulings.specs.declared.ruling.Ruling.{Ruling}

-- at the first byte on which they differ, the byte of the one is the smaller
pub record Precedes (r s : Ruling) : Type 0 where
  pub place : ℕ
  pub same_before : (i : ℕ) → i < place → byte r i ≡ byte s i
  pub smaller : byte r place < byte s place

-- a strict total order
pub record StrictTotal {A : Type 0} (less : A → A → Type 0) : Type 0 where
  pub irreflexive : (a : A) → less a a → ⊥
  pub transitive : (a b c : A) → less a b → less b c → less a c
  pub total : (a b : A) → less a b ⊎ (a ≡ b) ⊎ less b a

-- a relation is the strict order of a comparison: Less says that it holds, and values that compare as Equal are the same
pub record IsOrderOf {A : Type 0} (cmp : A → A → Ordering) (before : A → A → Type 0) : Type 0 where
  pub less : (a b : A) → (cmp a b ≡ Less) ↔ before a b
  pub same : (a b : A) → cmp a b ≡ Equal → a ≡ b
