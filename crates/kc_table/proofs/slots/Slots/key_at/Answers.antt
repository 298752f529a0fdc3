use Rattle.std.proofs.Common.{arith}
use Rattle.kc_table.proofs.Resizing.{key_read}
use Rattle.kc_table.proofs.slots.Slots.key_at.Goals as goal

pub overflow_mul-home : goal.overflow_mul-home
overflow_mul-home c =
    let read = key_read c.args.self.now c.args.index c.args.tag c.tag.inside.number c.requires.tag c.requires.some c.tag.view_is in
    record { fits = omega (arith, read.home_fits) }

pub overflow_add-home : goal.overflow_add-home
overflow_add-home c =
    let read = key_read c.args.self.now c.args.index c.args.tag c.tag.inside.number c.requires.tag c.requires.some c.tag.view_is in
    record { fits = read.home_fits }

pub overflow_add-result : goal.overflow_add-result
overflow_add-result c =
    let read = key_read c.args.self.now c.args.index c.args.tag c.tag.inside.number c.requires.tag c.requires.some c.tag.view_is in
    record { fits = read.fits }

pub returns-clause-key : goal.returns-clause-key
returns-clause-key c =
    (key_read c.args.self.now c.args.index c.args.tag c.tag.inside.number c.requires.tag c.requires.some c.tag.view_is).is

pub returns-clause-in_range : goal.returns-clause-in_range
returns-clause-in_range c =
    (key_read c.args.self.now c.args.index c.args.tag c.tag.inside.number c.requires.tag c.requires.some c.tag.view_is).in_range
