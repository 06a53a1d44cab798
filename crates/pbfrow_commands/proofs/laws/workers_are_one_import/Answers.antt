use Rattle.pbfrow_commands.proofs.WorkerLemmas.{plan-tiles, file-gives, piece-gives, frames-are-one, one-database-holds-all, filled-ranges-stay, databases-are-parts}
use Rattle.pbfrow_commands.proofs.laws.workers_are_one_import.Goals as goal

pub returns-clause-plan : goal.returns-clause-plan
returns-clause-plan c = plan-tiles

pub returns-clause-file_given : goal.returns-clause-file_given
returns-clause-file_given c = file-gives

pub returns-clause-piece_given : goal.returns-clause-piece_given
returns-clause-piece_given c = piece-gives

pub returns-clause-frames : goal.returns-clause-frames
returns-clause-frames c = frames-are-one

pub returns-clause-one_database : goal.returns-clause-one_database
returns-clause-one_database c = one-database-holds-all

pub returns-clause-ranges_stay : goal.returns-clause-ranges_stay
returns-clause-ranges_stay c = filled-ranges-stay

pub returns-clause-databases : goal.returns-clause-databases
returns-clause-databases c = databases-are-parts
