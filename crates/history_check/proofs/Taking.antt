-- What an entry that may follow makes of the tables is the tables with it.
use Rattle.std.proofs.Common.{◌≡◌, Bool, true, false, ◌&&◌, cond, [], ◌∷◌}
use Rattle.std.proofs.Common.{refl, sym, ap, ap₂, ◌∙◌, Some, None}
use Rattle.nvme_model.specs.declared.config.ConfigNumbers.{ConfigNumbers}
use Rattle.nvme_model.specs.declared.entry.Entry.{Entry}
use Rattle.nvme_model.specs.declared.entry.PublishLine.{PublishLine}
use Rattle.nvme_model.specs.declared.entry.ReapLine.{ReapLine}
use Rattle.nvme_model.specs.History.{Past}
use Rattle.nvme_model.specs.Legal.{IsLegal, legal, may_follow}
use Rattle.history_check.specs.Judged.{judged}
use Rattle.history_check.specs.Pass.{pass, take_entry}
use Rattle.history_check.specs.Tables.{no_tables, tables}
use Rattle.history_check.specs.Taken.{tables_after}
use Rattle.nvme_model.proofs.Rules.{follows}
use Rattle.ticket_laws.proofs.Waiting.{publish_waits, reap_waits}
use Rattle.history_check.proofs.Judging.{judged_is}
use Rattle.history_check.proofs.TakingBlocks.{block_taken}
use Rattle.history_check.proofs.TakingPosts.{post_taken}
use Rattle.history_check.proofs.TakingGrants.{grant_taken}
use Rattle.history_check.proofs.TakingFetches.{fetch_taken}

-- ---- a Publish

publish_taken : (c : ConfigNumbers) (past : Past) (p : PublishLine) → IsLegal c (Entry.Publish p ∷ past)
    → tables c (Entry.Publish p ∷ past) ≡ tables_after c (tables c past) (Entry.Publish p)
publish_taken c past p h =
    (λ i. record (tables c past)
    { waiting = λ q. publish_waits c past p q (follows c past (Entry.Publish p) h).before i })

-- ---- a Reap

reap_taken : (c : ConfigNumbers) (past : Past) (r : ReapLine)
    → tables c (Entry.Reap r ∷ past) ≡ tables_after c (tables c past) (Entry.Reap r)
reap_taken c past r = (λ i. record (tables c past) { unreaped = λ q. reap_waits c past r q i })

-- ---- each kind of entry

pub taken_is : (c : ConfigNumbers) (past : Past) (e : Entry) → IsLegal c (e ∷ past)
    → tables c (e ∷ past) ≡ tables_after c (tables c past) e
taken_is c past (Entry.Publish p) h = publish_taken c past p h
taken_is c past (Entry.Fetch f) h = fetch_taken c past f h
taken_is c past (Entry.Grant g) h = grant_taken c past g h
taken_is c past (Entry.Block b) h = block_taken c past b h
taken_is c past (Entry.Post p) h = post_taken c past p h
taken_is c past (Entry.Reap r) h = reap_taken c past r

pub start_is : (c : ConfigNumbers) → tables c [] ≡ no_tables
start_is c = refl

-- ---- one pass

pub pass_is : (c : ConfigNumbers) (past : Past) → pass c past ≡ cond (legal c past) (Some (tables c past)) None
pass_is c [] = refl
pass_is c (e ∷ past) = ap (λ o. take_entry c o e) (pass_is c past) ∙ go (legal c past) refl
  where
    last : IsLegal c past → (x : Bool) → judged c (tables c past) e ≡ x → legal c (e ∷ past) ≡ x
        → cond x (Some (tables_after c (tables c past) e)) None ≡ cond x (Some (tables c (e ∷ past))) None
    last h true j l = ap (λ s. Some s) (sym (taken_is c past e l))
    last h false j l = refl

    go : (b : Bool) → legal c past ≡ b
        → take_entry c (cond b (Some (tables c past)) None) e
        ≡ cond (legal c (e ∷ past)) (Some (tables c (e ∷ past))) None
    go true h =
        let same = judged_is c past e h in
        let follow : legal c (e ∷ past) ≡ judged c (tables c past) e = ap₂ (λ (x y : Bool). x && y) h same in
        last h (judged c (tables c past) e) refl follow
        ∙ ap (λ x. cond x (Some (tables c (e ∷ past))) None) (sym follow)
    go false h = ap (λ x. cond (x && may_follow c past e) (Some (tables c (e ∷ past))) None) (sym h)
