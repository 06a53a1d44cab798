use Rattle.pbfrow_databases.proofs.questions.ask_in_turn.Goals as goal

pub returns-in-Status-clause-told : goal.returns-in-Status-clause-told
returns-in-Status-clause-told g c = rw c.in-Status.is c.status_parts.ensures.told

pub returns-in-Counts-clause-told : goal.returns-in-Counts-clause-told
returns-in-Counts-clause-told g c = rw c.in-Counts.is c.status_parts_with_counts.ensures.told

pub returns-in-Export-clause-told : goal.returns-in-Export-clause-told
returns-in-Export-clause-told g c = rw c.in-Export.is c.export_parts.ensures.told
