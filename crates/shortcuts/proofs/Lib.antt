-- Laws for a settling or a search that does no more than it must, each module after those it cites: what a step looks at (`LocalLaws`); steps that wait
-- (`WaitLaws`), a run of them (`RunningLaws`) and a turn of it in words (`TurnLaws`); going back with a table that is kept (`KeptLaws`); that a queue of steps
-- ends in the settled table (`QueueSettledLaws`).
pub mod LocalLaws
pub mod WaitLaws
pub mod RunningLaws
pub mod TurnLaws
pub mod KeptLaws
pub mod QueueSettledLaws
