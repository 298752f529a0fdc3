-- The requests to the files of a command line, in order: this project's own.
use Rattle.std.specs.Prelude.{[], Option, Some, None}
use Rattle.std.specs.declared.fs.permissions.Permissions.{Permissions}
use Rattle.clap.specs.Words.{Text}
use Rattle.kc_io.specs.History.{History, no_history}
use Rattle.kc_tool.specs.declared.file_acts.FileAct.{FileAct}
use Rattle.kc_tool.specs.declared.file_acts.FileAct.TheVariants as act
use Rattle.kc_tool.specs.declared.files.NotMade.{NotMade}
use Rattle.kc_tool.specs.declared.files.NotMade.TheVariants as why

-- one request to the files: what it was and what came of it, the name of the file, the other path if there are two, and
-- what the file had given or taken when it was closed
pub record FileEvent : Type 0 where
  pub act : FileAct
  pub name : Text
  pub other : Text
  pub history : History

abbrev pub event : FileAct → Text → Text → History → FileEvent
event what name other history = record { act = what; name = name; other = other; history = history }

-- a request to the file with this name alone, which moved no bytes
abbrev pub event_of : FileAct → Text → FileEvent
event_of what name = event what name [] no_history

-- the file with this name was opened for reading, or could not be
abbrev pub opened : Text → FileEvent
opened name = event_of act.Opened name

abbrev pub not_opened : Text → FileEvent
not_opened name = event_of act.NotOpened name

-- a regular file with this name was opened for writing, or made; or a device was opened; or none could be
abbrev pub created : Text → FileEvent
created name = event_of act.Created name

abbrev pub reached : Text → FileEvent
reached name = event_of act.Reached name

abbrev pub opened_to_write : Option Permissions → Text → FileEvent
opened_to_write (Some permissions) name = created name
opened_to_write None name = reached name

abbrev pub not_created : Text → FileEvent
not_created name = event_of act.NotCreated name

-- the links of this path led to that one, or could not be followed
abbrev pub followed : Text → Text → FileEvent
followed name path = event act.Followed name path no_history

abbrev pub not_followed : Text → FileEvent
not_followed name = event_of act.NotFollowed name

-- a new file with this name was made, or was not, for this reason
abbrev pub made : Text → FileEvent
made name = event_of act.Made name

abbrev pub not_made : NotMade → Text → FileEvent
not_made why.Taken name = event_of act.Taken name
not_made why.Refused name = event_of act.NotMade name

-- the file with this name was closed, after it had given this, or taken this
abbrev pub read : Text → History → FileEvent
read name history = event act.Read name [] history

abbrev pub wrote : Text → History → FileEvent
wrote name history = event act.Wrote name [] history

-- the file with this name was renamed to that path, or could not be
abbrev pub renamed : Text → Text → FileEvent
renamed name path = event act.Renamed name path no_history

abbrev pub not_renamed : Text → Text → FileEvent
not_renamed name path = event act.NotRenamed name path no_history

-- the file with this name was removed, or could not be
abbrev pub removed : Text → FileEvent
removed name = event_of act.Removed name

abbrev pub not_removed : Text → FileEvent
not_removed name = event_of act.NotRemoved name
