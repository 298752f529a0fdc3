-- The origins of two tables that are added.
use Rattle.std.proofs.Common.{◌≡◌, Bor, refl}
use Rattle.std.specs.Prelude.{Option, Some, None, option_map}
use Rattle.std.specs.Option.{option_copied}
use Rattle.kc_report.specs.declared.origin.Origin.{Origin}

-- An origin that is lent is the origin.
pub lent_origin : (origin : Option (Bor Origin)) → option_map (λ said. said.now) origin ≡ option_copied origin
lent_origin None = refl
lent_origin (Some said) = refl
