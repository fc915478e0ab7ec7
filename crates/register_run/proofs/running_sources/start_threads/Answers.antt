use Rattle.register_run.proofs.running_sources.start_threads.Goals as goal

pub spawn_with-reader-requires-clause-keeps : goal.spawn_with-reader-requires-clause-keeps
spawn_with-reader-requires-clause-keeps g c κs within = λ r h. rw (c.of.ensures, c.of-2.ensures, c.of-3.ensures) h
