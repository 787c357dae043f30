use Rattle.std.proofs.Common.{arith, subst, sym}
use Rattle.race.specs.Ended.{HaveEnded}
use Rattle.race.proofs.Ended.{passes_more}
use Rattle.race.proofs.closing.put_pass.Goals as goal

pub returns-clause-passes : goal.returns-clause-passes
returns-clause-passes c =
    let e = c.args._system.now.engine in
    let p = c.args._play.now in
    let s = c.args._servers in
    let is = c.requires.number in
    let long = c.args.passes.now.ok.0 in
    subst (HaveEnded e p s) (sym c.push_reserved.ensures.items)
    (passes_more e p s c.args.passes.now.items c.args.pass c.requires.passes c.requires.pass
    (omega (arith, is, long)))
