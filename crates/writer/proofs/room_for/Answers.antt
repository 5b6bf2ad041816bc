-- The number of the line is tested before it is multiplied, so that no product goes beyond its type. Assumes nothing.
use Rattle.writer.proofs.LineJudged.{room-none, room-short, room-enough}
use Rattle.writer.proofs.room_for.Goals as goal

pub returns-then-n-size : goal.returns-then-n-size
returns-then-n-size c = room-enough _ _ c.if-n.true c.if-n-size.true

pub returns-else-n-size : goal.returns-else-n-size
returns-else-n-size c = room-short _ _ c.if-n.true c.if-n-size.false

pub returns-else-n : goal.returns-else-n
returns-else-n c = room-none _ _ c.if-n.false
