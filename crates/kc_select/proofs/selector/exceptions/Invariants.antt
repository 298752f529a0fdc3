use Rattle.std.proofs.Common.{◌≡◌, ◌++◌}
use Rattle.kc_select.specs.SolidWords.{is_exception}
use Rattle.kc_select.proofs.SolidWordsLemmas.{words_where}
use Rattle.kc_select.proofs.selector.exceptions.Given as goal

-- the words so far and those of the rows that are left are those of all rows
abbrev pub invariant-loop-row : goal.invariant-loop-row
invariant-loop-row l = record {
  can_next : goal.iterator-loop-row.can_next l.row-iterator;
  is_finite : goal.iterator-loop-row.is_finite l.row-iterator;
  words : l.words.items ++ words_where (is_exception l.fn.selection) l.row-iterator
      ≡ words_where (is_exception l.fn.selection) l.fn.tally.rows;
}
