-- No history explains a trace with a bad line.
use Rattle.std.proofs.Common.{Bool, List, [], false, refl, subst, sym, true, ◌&&◌, ◌++◌, ◌∙◌, ◌∷◌, ◌≡◌}
use Rattle.nvme_model.specs.Config.{is_accepted}
use Rattle.nvme_model.specs.EntryBytes.{cqe_fields}
use Rattle.nvme_model.specs.History.{Past}
use Rattle.nvme_model.specs.Legal.{IsLegal}
use Rattle.nvme_model.specs.declared.config.ConfigNumbers.{ConfigNumbers}
use Rattle.nvme_model.proofs.Beginnings.{earlier}
use Rattle.trace.specs.Observed.{Explains, observed}
use Rattle.trace.specs.Options.{no_options}
use Rattle.trace.specs.declared.seen.ReapedLine.{ReapedLine}
use Rattle.trace.specs.declared.seen.Seen.{Seen}
use Rattle.trace.proofs.Beginnings.{all_explained}
use Rattle.refutation.specs.LineRules.{breaks_entry_rules, is_bad_line}
use Rattle.refutation.specs.Lines.{is_tidy}
use Rattle.refutation.proofs.Answering.{data_right, status_right}
use Rattle.refutation.proofs.EarlySeconds.{early_right}
use Rattle.refutation.proofs.LastLine.{LastReap, last_publish, last_reap}
use Rattle.refutation.proofs.LeastFetched.{head_right}
use Rattle.refutation.proofs.LineOrders.{beginning}
use Rattle.refutation.proofs.LineRules.{batch_right, bits_unset, entry_right, none_of, phase_right, queue_right}
use Rattle.refutation.proofs.Lines.{tidy_each}
use Rattle.refutation.proofs.Seconds.{second_right}

tidy_rules : (c : ConfigNumbers) (r : ReapedLine) (trace : List Seen) → is_accepted c ≡ true → LastReap c r trace
    → (is_tidy trace && breaks_entry_rules c trace r) ≡ false
tidy_rules c r trace a l = go (is_tidy trace) refl
  where
    go : (b : Bool) → is_tidy trace ≡ b → (b && breaks_entry_rules c trace r) ≡ false
    go false d = refl
    go true e =
        let d = tidy_each (cqe_fields r.cqe).sqid trace e in
        none_of _ _ (none_of _ _ (none_of _ _ (none_of _ _ (none_of _ _ (entry_right c r trace d l)
        (head_right c r trace a d l)) (status_right c r trace d l)) (second_right c r trace d l))
        (early_right c r trace d l)) (data_right c r trace d l)

pub line_right : (c : ConfigNumbers) (past : Past) (trace : List Seen) → is_accepted c ≡ true → IsLegal c past
    → observed c past ≡ trace → is_bad_line c trace ≡ false
line_right c past [] a h e = refl
line_right c past (Seen.Published p ∷ trace) a h e = batch_right c p trace (last_publish c past p trace h e)
line_right c past (Seen.Reaped r ∷ trace) a h e =
    let l = last_reap c past r trace h e in
    none_of _ _ (none_of _ _ (none_of _ _ (bits_unset c r trace l) (phase_right c r trace l))
    (queue_right c r trace a l))
    (tidy_rules c r trace a l)

-- also where more lines follow
pub nothing_explains : (c : ConfigNumbers) (past : Past) (more trace : List Seen) → is_accepted c ≡ true
    → is_bad_line c trace ≡ true → Explains no_options c past (more ++ trace) → ⊥
nothing_explains c past more trace a bad h =
    let x = all_explained c past (more ++ trace) h in
    let b = beginning c past more trace x.1 in
    let legal : IsLegal c b.1 = earlier c b.0 b.1 (subst (λ (p : Past). IsLegal c p) b.2 x.0) in
    let good = line_right c b.1 trace a legal b.3 in
    let f : true ≡ false = sym bad ∙ good in cc
