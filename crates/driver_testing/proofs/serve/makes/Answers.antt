use Rattle.shared_system.specs.declared.plain.PlainCaller.{PlainCaller}
use Rattle.driver_testing.proofs.Serving.{serves_through, worked_serves}
use Rattle.driver_testing.proofs.serve.makes.Goals as goal

pub returns-in_default-attempt_work-clause-serves : goal.returns-in_default-attempt_work-clause-serves
returns-in_default-attempt_work-clause-serves g c =
    let e = c.attempt_work.ensures in
    (e.same.0, λ x. worked_serves _ _ _ _ _ _ _ _ _ e.same.0 e.knows e.accepted e.declined x)

pub returns-then-tells-clause-serves : goal.returns-then-tells-clause-serves
returns-then-tells-clause-serves g c =
    let e = c.attempt_work.ensures in
    let mid : PlainCaller = record c.args.server.now { pass = c.attempt_work.new.pass } in
    serves_through c.args.server.now mid c.tells.new.server
    (e.same.0, λ x. worked_serves _ _ _ _ _ _ _ _ _ e.same.0 e.knows e.accepted e.declined x) c.tells.ensures.serves

pub returns-clause-serves : goal.returns-clause-serves
returns-clause-serves g c =
    let e = c.attempt_work.ensures in
    let mid : PlainCaller = record c.args.server.now { pass = c.attempt_work.new.pass } in
    serves_through c.args.server.now mid c.tells.new.server
    (e.same.0, λ x. worked_serves _ _ _ _ _ _ _ _ _ e.same.0 e.knows e.accepted e.declined x) c.tells.ensures.serves
