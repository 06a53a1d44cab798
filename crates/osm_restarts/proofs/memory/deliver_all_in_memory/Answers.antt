use Rattle.std.proofs.Common.{inl}
use Rattle.std.proofs.lemmas.Result.{IfOk-weaker}
use Rattle.osm_restarts.proofs.memory.deliver_all_in_memory.Goals as goal

pub returns-clause-run : goal.returns-clause-run
returns-clause-run c held holds =
    IfOk-weaker c.deliver_all-answers.result _ _ (λ answers taken. taken.run held holds c.memory_goes_on.ensures.0 (inl c.memory_goes_on.ensures.1)) c.deliver_all-answers.ensures.taken

pub returns-clause-one_file : goal.returns-clause-one_file
returns-clause-one_file c held frames holds one =
    IfOk-weaker c.deliver_all-answers.result _ _ (λ answers taken. taken.one_file held frames holds c.memory_goes_on.ensures.0 one.whole one.of_file one.held_of_file (inl c.memory_goes_on.ensures.1)) c.deliver_all-answers.ensures.taken

pub returns-clause-same : goal.returns-clause-same
returns-clause-same c = IfOk-weaker c.deliver_all-answers.result _ _ (λ answers taken. taken.same c.memory_goes_on.ensures.0 c.memory_goes_on.ensures.1) c.deliver_all-answers.ensures.taken
