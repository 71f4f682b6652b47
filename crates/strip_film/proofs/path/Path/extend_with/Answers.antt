use Rattle.std.proofs.Common.{arith}
use Rattle.strip_film.specs.Shown.{path_data}
use Rattle.strip_film.proofs.Paths.{rest_lies, there, few_scenes, paid_limit, IsPath-extended}
use Rattle.strip_film.proofs.path.Path.extend_with.Goals as goal

pub push-requires-clause-room : goal.push-requires-clause-room
push-requires-clause-room c = few_scenes c.args.film.now (path_data c.args.self.now) c.requires.path c.keeps_limits.ensures c.args.s c.requires.ready

pub push-requires-clause-scene : goal.push-requires-clause-scene
push-requires-clause-scene c =
    omega (
      arith,
      rest_lies c.args.film.now (path_data c.args.self.now) c.requires.path c.args.s
          (there c.args.film.now (path_data c.args.self.now) c.requires.path c.keeps_limits.ensures c.args.s c.requires.ready),
      c.keeps_limits.ensures.scene_count.1,
    )

pub push-requires-clause-sum : goal.push-requires-clause-sum
push-requires-clause-sum c =
    rw c.requires.step (omega (arith, paid_limit c.args.film.now (path_data c.args.self.now) c.requires.path c.keeps_limits.ensures c.args.s c.requires.ready))

pub returns-clause-path : goal.returns-clause-path
returns-clause-path c =
    rw (c.push.ensures, c.requires.step) (IsPath-extended c.args.film.now (path_data c.args.self.now) c.requires.path c.args.s c.requires.ready)
