-- How many places a key has, how the bits of a slot's number are divided, and the bounds that follow.
use Rattle.std.specs.Prelude.{ℕ}

-- How many places a key has. With more of them, a table grows later and a tag has fewer bits for the remainder.
abbrev pub place_count : ℕ
place_count = 63

-- A tag is a key's remainder times this, plus its number of reprobes, plus 1, so that 0 is no key's tag. This is
-- `place_count` plus 1, a power of 2.
abbrev pub tag_step : ℕ
tag_step = 64

-- The bits of a tag for the number of reprobes: `tag_step` is 2 to this.
abbrev pub reprobe_bits : ℕ
reprobe_bits = 6

-- In a table of 2 to this many slots, which is `tag_step`, or more, the places of a key are different.
abbrev pub spread_log : ℕ
spread_log = 6

-- The most bits of a remainder: those of a number, 64, minus `reprobe_bits`.
abbrev pub remainder_bits : ℕ
remainder_bits = 58

-- The most bits of a key: two for each base of a word of 31.
abbrev pub most_bits : ℕ
most_bits = 62

-- A table has at least 2 to this many slots, if there are so many keys. The slot determines the bits of a key for which
-- its remainder has no room: `most_bits` minus `remainder_bits`.
abbrev pub least_log : ℕ
least_log = 4

-- A table has at most 2 to this many slots: triangle(62) times that is still below 2 ^ 64.
abbrev pub most_log : ℕ
most_log = 40

-- The bits of a key's home that are the number of its part of the table.
abbrev pub part_bits : ℕ
part_bits = 10

-- The most parts of a table: 2 to `part_bits`.
abbrev pub most_parts : ℕ
most_parts = 1024

-- A count is below 2 to this before one is added.
abbrev pub count_bits : ℕ
count_bits = 62
