-- The names of the sorts of book.
use Rattle.std.specs.Prelude.{◌≡◌, ◌≢◌, ℕ, List, Ok, Err, Result, codes}
use Rattle.explaining.specs.declared.sort.Sort.{Sort}
use Rattle.explaining.specs.declared.sort.Sort.TheVariants.{Rules, Protests}
use Rattle.explaining.specs.declared.sort.UnknownSort.{UnknownSort}

abbrev pub name_of : Sort → List ℕ
name_of Rules = codes "rules"
name_of Protests = codes "protests"

-- the sort with this name; unknown where there is none
abbrev pub OfName : List ℕ → Result Sort UnknownSort → Type 0
OfName name (Ok sort) = name ≡ name_of sort
OfName name (Err _) = (sort : Sort) → name ≢ name_of sort
