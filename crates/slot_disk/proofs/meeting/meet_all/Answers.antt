use Rattle.std.specs.Arc.{arc_value}
use Rattle.std.proofs.Common.{[], refl, subst, true, ℕ, ◌+◌, ◌∙◌, ◌≡◌}
use Rattle.nvme_model.specs.Passes.{entries}
use Rattle.meet_lock.specs.Lock.{AreOfPasses}
use Rattle.meet_lock.specs.Passes.{seen}
use Rattle.many_host_laws.specs.Rosters.{IsRosterOf, view_of_pass}
use Rattle.shared_system.specs.Servers.{serves}
use Rattle.slot_disk.proofs.Moment.{first_legal, moment, roster, rostered}
use Rattle.slot_disk.proofs.Rounds.{begins_same, known_twice}
use Rattle.slot_disk.proofs.meeting.meet_all.Goals as goal

pub returns-clause-moment : goal.returns-clause-moment
returns-clause-moment c =
    let eng = arc_value c.args.setting.now.engine in
    let config = c.args.setting.now.config in
    let slots = c.args.setting.now.slots in
    let hs = c.args.hosts.now.items in
    let js = c.meet_once.new.hosts.items in
    let ks = c.meet_once-2.new.hosts.items in
    let q = c.meet_once.new.server in
    let x = c.in_ok-meet_once.ensures.met in
    let y = c.in_ok-meet_once-2.ensures.met in
    let server = c.meet_once.ensures.server in
    let all = c.meet_once-2.ensures.hosts in
    let count = y.count ∙ (x.count ∙ c.requires.count.0) in
    let known = known_twice eng config slots hs js ks c.args.server.now q c.meet_once-2.new.server
    c.meet_once.ensures.hosts all x y in
    let s = c.what_a_server_has_seen.ensures q (seen q) server.serving (begins_same (seen q) (seen q) refl) in
    let serving : serves (config.cqs + 1) (seen q) ≡ true =
    subst (λ (n : ℕ). serves n (seen q) ≡ true) server.number_is s.1 in
    let of_passes : AreOfPasses (config.cqs + 1) (seen q) =
    subst (λ (n : ℕ). AreOfPasses n (seen q)) server.passes s.0 in
    let r = roster config ks in
    let theirs : IsRosterOf config slots r (seen q) =
    rostered eng config slots ks (seen q) all count c.requires.count.1 known serving of_passes
    (c.each_pass_drives_or_serves.ensures config r (config.cqs + 1) (seen q) of_passes) in
    let law = c.drivers_that_keep_the_rules_keep_the_discipline.ensures in
    moment eng config slots ks (seen q) all count c.requires.count.1 known serving of_passes theirs
    (λ p l m drives inside believes. c.the_believed_hold_their_slots.ensures.holder [] slots (r.host p) (r.last p)
    (view_of_pass config r (seen q) p) l m (law.each config slots r (seen q) p theirs drives) inside believes)
    (λ l m inside believes. c.believers_hold.ensures.holds config slots (entries (seen q)) l m
    (first_legal eng config slots ks (seen q) all count c.requires.count.1 known serving of_passes)
    (law.whole config slots r (seen q) theirs) inside believes)
