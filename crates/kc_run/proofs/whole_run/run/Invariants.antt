use Rattle.std.proofs.Common.{Contains}
use Rattle.kc_word.specs.Shared.{values}
use Rattle.kc_stripe.specs.Terms.{SomeTableMayBeFull}
use Rattle.kc_run.proofs.whole_run.run.Given as goal

abbrev pub ghosts-count_batches-N-Books : goal.ghosts-count_batches-N-Books
ghosts-count_batches-N-Books g a = record { table = a.sheet.table }

abbrev pub ghosts-count_batches-N-Terms : goal.ghosts-count_batches-N-Terms
ghosts-count_batches-N-Terms g a = record {
  may_be_booked = Contains (values a.count.now.batches.now);
  may_be_full = SomeTableMayBeFull g.C.Counts.may_be_full a.tables.items;
}
