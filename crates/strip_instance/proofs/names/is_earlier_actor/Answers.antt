use Rattle.std.proofs.Common.{◌≡◌, get_or, arith, sym, ap, ◌∙◌, [], true, false}
use Rattle.std.specs.Str.{bytes_eq}
use Rattle.strip_text.specs.Rows.{field_of}
use Rattle.strip_instance.specs.Parts.{actor_fields}
use Rattle.strip_instance.proofs.read.EarlierNames.{is_in-first, not_in-more}
use Rattle.strip_instance.proofs.read.Rows.{actor_field}
use Rattle.strip_instance.proofs.names.is_earlier_actor.Goals as goal

pub returns-then-eq : goal.returns-then-eq
returns-then-eq c =
    let header = c.args.header.now in
    let names = actor_fields header in
    let k = c.loop-earlier.earlier in
    let own : c.field-name.result.now ≡ field_of names c.args.actor = c.field-name.ensures ∙ actor_field header c.args.actor in
    let other : c.field.result.now ≡ field_of names k = c.field.ensures ∙ actor_field header k in
    let same : bytes_eq (field_of names c.args.actor) (get_or names k []) ≡ true
    = ap (λ name. bytes_eq name (get_or names k [])) (sym own) ∙ ap (bytes_eq c.field-name.result.now) (sym other) ∙ sym c.eq.ensures ∙ c.if-eq.true in
    sym (is_in-first names c.args.actor k (field_of names c.args.actor) c.loop-earlier-test.true (omega (arith, c.requires.within)) same)

pub loop-earlier-preserved : goal.loop-earlier-preserved
loop-earlier-preserved c =
    let header = c.args.header.now in
    let names = actor_fields header in
    let k = c.loop-earlier.earlier in
    let own : c.field-name.result.now ≡ field_of names c.args.actor = c.field-name.ensures ∙ actor_field header c.args.actor in
    let other : c.field.result.now ≡ field_of names k = c.field.ensures ∙ actor_field header k in
    let differ : bytes_eq (field_of names c.args.actor) (get_or names k []) ≡ false
    = ap (λ name. bytes_eq name (get_or names k [])) (sym own) ∙ ap (bytes_eq c.field-name.result.now) (sym other) ∙ sym c.eq.ensures ∙ c.if-eq.false in
    not_in-more names k (field_of names c.args.actor) (omega (arith, c.requires.within, c.loop-earlier-test.true)) c.loop-earlier.invariant differ
