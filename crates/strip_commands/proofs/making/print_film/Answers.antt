use Rattle.strip_commands.proofs.Tried.{film_printed}
use Rattle.strip_words.specs.Shown.{gen_data}
use Rattle.strip_commands.proofs.making.print_film.Goals as goal

pub returns : goal.returns
returns c =
    film_printed (gen_data c.args.job.now) c.in_ok-inst.inst c.in_ok-text.text.items c.printed.result c.in_ok-inst.ensures
    (c.what_is_made_has_readable_names.ensures c.args.job.now.number c.args.job.now.scenes c.args.job.now.actors c.requires.1 c.requires.2)
    c.in_ok-text.ensures.canonical c.in_ok-text.ensures.reads_back c.printed.ensures.status c.printed.ensures.text
