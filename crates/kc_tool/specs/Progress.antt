-- The line that a command prints on a terminal while it works: source, our formats page.
use Rattle.std.specs.Prelude.{ℕ, ◌*◌, ◌/◌, ◌==◌, min, List, [], ◌∷◌, ◌++◌, codes, decimal, if◌then◌else◌}
use Rattle.kc_tool.specs.declared.count_progress.Reached.{Reached}

-- the percentage of the bytes that were read, rounded down and at most 100; nothing if their number is not known
abbrev pub percent_text : Reached → List ℕ
percent_text reached = if reached.size == 0 then []
    else codes " (" ++ decimal (min 100 (reached.bytes * 100 / reached.size)) ++ codes "%)"

-- that the tables are gathered, once all batches were counted
abbrev pub gathering_text : Reached → List ℕ
gathering_text reached = if reached.counted == reached.batches then codes ", gathering" else []

-- how many batches were counted, of how many; nothing before that is known
abbrev pub batches_text : Reached → List ℕ
batches_text reached = if reached.batches == 0 then []
    else codes ", counted " ++ decimal reached.counted ++ codes " of " ++ decimal reached.batches ++ codes " batches"
    ++ gathering_text reached

-- bytes in whole millions, percent, batches, and seconds: the line begins at its first column (byte 13), and clears
-- what was there after it (the bytes 27, `[` and `K`)
abbrev pub progress_text : Reached → List ℕ
progress_text reached = 13 ∷ codes "read " ++ decimal (reached.bytes / 1000000) ++ codes " MB" ++ percent_text reached
    ++ batches_text reached ++ codes ", " ++ decimal reached.seconds ++ codes " s" ++ 27 ∷ codes "[K"
