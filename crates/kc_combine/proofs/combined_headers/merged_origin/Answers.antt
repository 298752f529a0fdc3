use Rattle.std.proofs.Common.{◌≡◌, ◌-◌, ◌+◌, ◌<◌, ◌^◌, ℕ, suc, length, drop, get_or, arith, ap, refl, sym, subst, ◌∙◌}
use Rattle.std.proofs.lemmas.Result.{err_from_is_err_and}
use Rattle.kc_report.specs.Merging.{joined_origin, reads_together}
use Rattle.kc_combine.specs.MergedTables.{joined_origins}
use Rattle.kc_combine.proofs.CombinedHeaderLemmas.{joined_step, none_joined, origins_of, too_many_reads}
use Rattle.kc_combine.proofs.combined_headers.merged_origin.Goals as goal

pub returns-then-not-have_origins : goal.returns-then-not-have_origins
returns-then-not-have_origins c =
    (sym (none_joined c.args.headers.now c.requires.some (λ all. let no = c.if-not-have_origins.ensures.1 all in cc)), tt)

pub returns-in_err-joined : goal.returns-in_err-joined
returns-in_err-joined c =
    let p = err_from_is_err_and c.from_residual.result c.from_residual.ensures.1 in
    let headers = c.args.headers.now in
    let at : ℕ = length headers - 1 - 1 - c.headers.i in
    let header = get_or headers at c.index-headers-last-in-headers.result in
    let next : length headers - 1 - c.headers.i ≡ suc at = omega (arith, c.headers-test.true) in
    let have = c.if-not-have_origins.ensures.0 refl in
    let fault = c.in_err-joined.ensures.fault in
    let many = subst (λ n. 2 ^ 62 < reads_together header.origin (joined_origins (origins_of (drop n headers)))) next
    (rw c.headers.invariant.joined at fault.1) in
    rw (p.1, p.2, fault.0) (too_many_reads headers at c.index-headers-last-in-headers.result (omega (arith, c.headers-test.true)) have many)

pub headers-preserved : goal.headers-preserved
headers-preserved c =
    let headers = c.args.headers.now in
    let at : ℕ = length headers - 1 - 1 - c.headers.i in
    let header = get_or headers at c.index-headers-last-in-headers.result in
    let next : length headers - 1 - c.headers.i ≡ suc at = omega (arith, c.headers-test.true) in
    let here : at ≡ length headers - 1 - (c.headers.i + 1) = omega (arith, c.headers-test.true) in
    record {
      joined = c.in_ok-joined.ensures.value
          ∙ ap (joined_origin header.origin) (c.headers.invariant.joined ∙ ap (λ n. joined_origins (origins_of (drop n headers))) next)
          ∙ sym (joined_step headers at c.index-headers-last-in-headers.result (omega (arith, c.headers-test.true)))
          ∙ ap (λ n. joined_origins (origins_of (drop n headers))) here;
      said = c.in_ok-joined.ensures.said (c.requires.said _ _ (omega (arith, c.headers-test.true))) c.headers.invariant.said;
    }
