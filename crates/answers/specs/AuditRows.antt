-- The rows of an audit, and their order.
use Rattle.std.specs.Prelude.{◌≡◌, ◌<◌, ◌⊎◌}
use Rattle.std.specs.Ordering.{nat_cmp, on, flip_args, then_cmp}
use Rattle.std.specs.declared.cmp.Ordering.{Ordering}
use Rattle.answers.specs.declared.audit.UpwardReading.{UpwardReading}

-- one row before another: larger drops first, then smaller readers, then smaller points read
abbrev pub AuditedBefore : UpwardReading → UpwardReading → Type 0
AuditedBefore r s =
    (s.drop < r.drop) ⊎ ((r.drop ≡ s.drop) × ((r.reader < s.reader) ⊎ ((r.reader ≡ s.reader) × (r.read < s.read))))

-- the same, as it is compared
abbrev pub audit_cmp : UpwardReading → UpwardReading → Ordering
audit_cmp = then_cmp (then_cmp (flip_args (on (λ r. r.drop) nat_cmp)) (on (λ r. r.reader) nat_cmp)) (on (λ r. r.read) nat_cmp)

-- the row of three zeros
abbrev pub zero_row : UpwardReading
zero_row = record { drop = 0; reader = 0; read = 0 }
