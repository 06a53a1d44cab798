use Rattle.pbfrow_databases.proofs.verifying.compare_one.Goals as goal

pub returns-clause-verified : goal.returns-clause-verified
returns-clause-verified g c = assumption c.verify-status.ensures.verified

pub returns-clause-exact : goal.returns-clause-exact
returns-clause-exact g c = assumption c.verify-status.ensures.exact

pub returns-clause-shown : goal.returns-clause-shown
returns-clause-shown g c = assumption c.verify-status.ensures.shown
