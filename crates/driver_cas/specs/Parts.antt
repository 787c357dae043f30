-- The engine of which a port has a part.
use Rattle.std.specs.Arc.{arc_value}
use Rattle.work_queue.specs.declared.engine.Engine.{Engine}
use Rattle.driver_cas.specs.declared.engine_part.EnginePart.{EnginePart}

-- the engine that is lent, or that it owns with others
abbrev pub engine_in : EnginePart → Engine
engine_in (EnginePart.Lent e) = e.now
engine_in (EnginePart.Own e) = arc_value e
