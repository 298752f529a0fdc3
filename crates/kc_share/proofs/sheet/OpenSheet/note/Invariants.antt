use Rattle.kc_share.specs.Entries.{entry_of}
use Rattle.kc_share.proofs.sheet.OpenSheet.note.Given as goal

abbrev pub ghosts-note_as : goal.ghosts-note_as
ghosts-note_as g a = record { entry = entry_of a.batch.now a.words }
