use Rattle.std.proofs.Common.{All, vec_len, ◌≡◌}
use Rattle.race.specs.Survivors.{IsParty}
use Rattle.race.proofs.swept.hears_each.Given as goal

abbrev pub invariant-loop-place : goal.invariant-loop-place
invariant-loop-place g l = All (IsParty l.scene.system.now l.scene.play.now l.fates) l.parties.items
    × (vec_len l.parties ≡ vec_len l.initial.parties)
