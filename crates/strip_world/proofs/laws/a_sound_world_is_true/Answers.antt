use Rattle.strip_world.proofs.True.{true_lines, true_entries, least_is_paid}
use Rattle.strip_world.proofs.laws.a_sound_world_is_true.Goals as goal

pub returns-clause-lines : goal.returns-clause-lines
returns-clause-lines c = λ world sound.
    true_lines world sound (c.the_rules_are_true.ensures.bounds world.search.kind world.search.film sound.film)
    (c.the_rules_are_true.ensures.begin world.search.kind world.search.film sound.film)

pub returns-clause-entries : goal.returns-clause-entries
returns-clause-entries c = λ world stripe bucket entry sound below within stands.
    true_entries world sound (c.the_rules_are_true.ensures.bounds world.search.kind world.search.film sound.film)
    (c.the_rules_are_true.ensures.begin world.search.kind world.search.film sound.film) stripe bucket entry below within stands

pub returns-clause-least : goal.returns-clause-least
returns-clause-least c = λ world pay sound optimum. least_is_paid world sound pay optimum
