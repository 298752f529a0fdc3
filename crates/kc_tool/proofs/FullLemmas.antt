-- When a run may end with a full stripe.
use Rattle.std.proofs.Common.{◌≡◌, ◌*◌, ◌+◌, ◌-◌, ◌^◌, ◌<◌, ℕ, List, All, min, inl, inr, sym, subst, arith}
use Rattle.std.proofs.Math.Pow.{pow-lt}
use Rattle.std.proofs.lemmas.List.Elements.{All-contains}
use Rattle.std.proofs.lemmas.Nat.{pow-add}
use Rattle.kc_kmer.proofs.Letters.{pow-four}
use Rattle.kc_table.specs.QuotientTable.{Table, MayBeFull}
use Rattle.kc_table.specs.Sizes.{most_log}
use Rattle.kc_booking.specs.Setup.{StripeSetup, key_bits, stripe_count}
use Rattle.kc_stripe.specs.Terms.{SomeTableMayBeFull}
use Rattle.kc_command.specs.Settings.{Settings}
use Rattle.kc_run.specs.declared.run_fault.RunFault.{RunFault}
use Rattle.kc_run.specs.declared.run_fault.RunFault.TheVariants as run
use Rattle.kc_run.specs.Runs.{IsRunFault, MayEverBeFull}
use Rattle.kc_tool.specs.Tallies.{MayFail}

-- A table that can't have a slot for each key of a stripe is smaller than the stripe's words are many.
more_words : (k stripe_bits : ℕ) → min most_log (2 * k - stripe_bits) < 2 * k - stripe_bits → 2 ^ most_log * 2 ^ stripe_bits < 4 ^ k
more_words k stripe_bits less =
    let bits : most_log + stripe_bits < 2 * k = omega (arith, less) in
    subst (λ n. n < 4 ^ k) (pow-add 2 most_log stripe_bits) (subst (λ n. 2 ^ (most_log + stripe_bits) < n) (sym (pow-four k)) (pow-lt bits))

-- So if a table of a count may be full, there are more words than slots.
full_tables : (setup : StripeSetup) (tables : List Table) → All (λ table. table.bits ≡ key_bits setup) tables
    → All (λ table. table.max_log ≡ min most_log (key_bits setup)) tables → MayEverBeFull (SomeTableMayBeFull MayBeFull tables)
    → 2 ^ most_log * stripe_count setup < 4 ^ setup.rule.k
full_tables setup tables bits max_log (counts, key, (table, there, full)) =
    let wide = All-contains (λ (t : Table). t.bits ≡ key_bits setup) tables table bits there in
    let most = All-contains (λ (t : Table). t.max_log ≡ min most_log (key_bits setup)) tables table max_log there in
    more_words setup.rule.k setup.stripe_bits (subst (λ n. n < key_bits setup) most (subst (λ n. table.max_log < n) wide full.0))

-- A fault that is possible under one condition is possible under another that follows from it.
fault_where : {A B : Type 0} (workers stripes : ℕ) (fault : RunFault) → (A → B) → IsRunFault A workers stripes fault → IsRunFault B workers stripes fault
fault_where workers stripes fault so (inr refused) = inr refused
fault_where workers stripes run.Memory so (inl it) = inl it
fault_where workers stripes (run.Foreign stripe) so (inl it) = inl it
fault_where workers stripes (run.Full stripe) so (inl it) = inl (it.0, so it.1)
fault_where workers stripes (run.NoThread worker) so (inl it) = inl it

-- The fault of a run over the tables of a count is one that it may have by its settings.
pub may_fail : (settings : Settings) (setup : StripeSetup) (tables : List Table) (fault : RunFault) → setup.rule.k ≡ settings.k → stripe_count setup ≡ settings.stripes
    → All (λ table. table.bits ≡ key_bits setup) tables → All (λ table. table.max_log ≡ min most_log (key_bits setup)) tables
    → IsRunFault (MayEverBeFull (SomeTableMayBeFull MayBeFull tables)) settings.workers (stripe_count setup) fault → MayFail settings fault
may_fail settings setup tables fault k stripes bits max_log refused =
    subst (λ n. IsRunFault (2 ^ most_log * n < 4 ^ settings.k) settings.workers n fault) stripes
    (subst (λ n. IsRunFault (2 ^ most_log * stripe_count setup < 4 ^ n) settings.workers (stripe_count setup) fault) k
    (fault_where settings.workers (stripe_count setup) fault (full_tables setup tables bits max_log) refused))
