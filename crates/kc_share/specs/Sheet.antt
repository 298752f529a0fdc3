-- A sheet before it is opened under a name, and while the keepers of its stripes are made. It is this project's own.
use Rattle.std.specs.Prelude.{ℕ, []}
use Rattle.atomic_table.specs.Seated.{TableId}
use Rattle.kc_share.specs.declared.entry.Plan.{Plan}

abbrev pub plan_of : ℕ → ℕ → Plan
plan_of stripes parts = record { stripes = stripes; parts = parts }

-- a sheet: the table of its word, and its plan
pub record SheetSeen : Type 0 where
  pub table : TableId
  pub plan : Plan

abbrev pub sheet_of : TableId → Plan → SheetSeen
sheet_of table plan = record { table = table; plan = plan }

-- a sheet that is being opened: its plan, and the number of the stripe whose keeper is made next
pub record OpeningSeen : Type 0 where
  pub plan : Plan
  pub next : ℕ

abbrev pub opening_of : Plan → ℕ → OpeningSeen
opening_of plan next = record { plan = plan; next = next }

-- a placeholder for a table's name
abbrev pub no_table : TableId
no_table = record { words = 0; slots = 0; views_name = 0; atom = 0; block = 0; offset = 0; slot_names = [] }
