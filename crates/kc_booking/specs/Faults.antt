-- The error of a stripe for each error of its table.
use Rattle.kc_table.specs.declared.table_fault.TableFault.{TableFault}
use Rattle.kc_table.specs.declared.table_fault.TableFault.TheVariants as table
use Rattle.kc_booking.specs.declared.booking_fault.BookFault.{BookFault}
use Rattle.kc_booking.specs.declared.booking_fault.BookFault.TheVariants as book

abbrev pub booking_fault : TableFault → BookFault
booking_fault table.Full = book.Full
booking_fault table.Memory = book.Memory
