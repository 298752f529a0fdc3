-- The bytes of the reports that are neither letters of a word nor digits: source, ASCII.
use Rattle.std.specs.Prelude.{ℕ}

abbrev pub tab : ℕ
tab = 9

abbrev pub line_feed : ℕ
line_feed = 10

abbrev pub space : ℕ
space = 32

abbrev pub greater_than : ℕ
greater_than = 62
