use Rattle.std.proofs.Common.{List, ◌∙◌, ap, subst, sym, ◌≡◌}
use Rattle.std.specs.Prelude.{slice_get, true}
use Rattle.slot_alloc.specs.Areas.{slot_of}
use Rattle.slot_alloc.specs.Claims.{IsHeldBy}
use Rattle.slot_alloc.specs.declared.claim.Claim.{Claim}
use Rattle.slot_host.specs.SlotHosts.{slot_state}
use Rattle.slot_host.specs.declared.hold.Hold.{Hold}
use Rattle.slot_takeover.specs.Takeovers.{HoldsTaken, slot_held}
use Rattle.slot_takeover.specs.declared.held.HeldSlot.{HeldSlot}
use Rattle.slot_host.proofs.HostBars.{release_open}
use Rattle.slot_host.proofs.HostReleasing.{emptied_kept, give_back_begins, release_begins}
use Rattle.slot_host.proofs.Places.{set_there}
use Rattle.slot_host.proofs.slot_host.SlotHost.begin_release.Goals as goal

pub release_claim-requires-clause-held : goal.release_claim-requires-clause-held
release_claim-requires-clause-held g c =
    let s = c.args.self.now in
    subst (λ (b : Claim). (slot_of b ≡ c.args.slot) × IsHeldBy s.driver b) (sym c.into_claim.ensures)
    (c.requires.kept.holds_are c.args.slot (Hold.Claimed c.in-Claimed.kept) c.in-Claimed.ensures.was)

pub release_claim-requires-clause-kept : goal.release_claim-requires-clause-kept
release_claim-requires-clause-kept g c =
    let s = c.args.self.now in
    emptied_kept s.driver s.number s.slots s.holds.items c.put_at.new.holds.items s.under_way s.took_over.value
    c.args.slot c.requires.kept c.in-Claimed.ensures.now

pub give_back-requires-clause-kept : goal.give_back-requires-clause-kept
give_back-requires-clause-kept g c =
    let s = c.args.self.now in
    emptied_kept s.driver s.number s.slots s.holds.items c.put_at.new.holds.items s.under_way s.took_over.value
    c.args.slot c.requires.kept c.in-TakenOver.ensures.now

pub give_back-requires-clause-idle : goal.give_back-requires-clause-idle
give_back-requires-clause-idle g c =
    let s = c.args.self.now in
    record {
      idle = (release_open (slot_state s) c.args.slot c.requires.open).0;
      nothing = ap (λ (hs : List Hold). slice_get hs c.args.slot) c.in-TakenOver.ensures.now
          ∙ set_there s.holds.items c.args.slot (Hold.TakenOver c.in-TakenOver.kept) Hold.Nothing
          c.in-TakenOver.ensures.was;
    }

pub give_back-requires-clause-held : goal.give_back-requires-clause-held
give_back-requires-clause-held g c =
    let s = c.args.self.now in
    subst (λ (b : HeldSlot). (slot_held b ≡ c.args.slot) × (s.took_over.value ≡ true) × HoldsTaken s.driver b)
    (sym c.into_held.ensures)
    (c.requires.kept.holds_are c.args.slot (Hold.TakenOver c.in-TakenOver.kept) c.in-TakenOver.ensures.was)

pub returns-in-Claimed-clause-claimed : goal.returns-in-Claimed-clause-claimed
returns-in-Claimed-clause-claimed g c =
    let s = c.args.self.now in
    λ k there. release_begins s.driver s.slots s.holds.items c.put_at.new.holds.items s.under_way s.took_over.value
    (slot_state c.release_claim.new.self) c.args.slot c.release_claim.result k c.in-Claimed.kept c.into_claim.result
    c.in-Claimed.ensures.was c.in-Claimed.ensures.now c.into_claim.ensures c.release_claim.ensures.ends there

pub returns-in-TakenOver-clause-taken : goal.returns-in-TakenOver-clause-taken
returns-in-TakenOver-clause-taken g c =
    let s = c.args.self.now in
    λ k there. give_back_begins s.driver s.slots s.holds.items c.put_at.new.holds.items s.under_way s.took_over.value
    (slot_state c.give_back.new.self) c.args.slot c.give_back.result k c.in-TakenOver.kept c.into_held.result
    c.in-TakenOver.ensures.was c.in-TakenOver.ensures.now c.into_held.ensures c.give_back.ensures.ends there
