use Rattle.std.proofs.Common.{◌%◌, ◌^◌, get_or, rules}
use Rattle.kc_booking.proofs.HashValues.{low-bits}
use Rattle.kc_booking.proofs.Parts.{low-below_64}
use Rattle.kc_booking.proofs.cut.part_sizes.Goals as goal

pub bucket_sizes-requires-clause-within : goal.bucket_sizes-requires-clause-within
bucket_sizes-requires-clause-within c = λ k d within bucket answered.
    let low = low-below_64 (get_or c.args.hash_values.now k d) c.args.stripe_bits c.requires in search rules

pub returns : goal.returns
returns c = c.bucket_sizes.ensures.sizes (λ value. value % 2 ^ c.args.stripe_bits) (λ k d within bucket answered.
    let low = low-bits (get_or c.args.hash_values.now k d) c.args.stripe_bits c.requires in search rules)
