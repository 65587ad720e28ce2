use Rattle.std.proofs.Common.{refl, ap, ◌∙◌}
use Rattle.dsdl_parse.proofs.Borrowed.{texts, two_parts, found}
use Rattle.dsdl_parse.proofs.reference.reference_of.Goals as goal

pub split_version-requires : goal.split_version-requires
split_version-requires c =
    two_parts c.args.text.now c.deref.result.now c.requires (ap texts c.deref.ensures.value ∙ c.in_ok-parts.ensures)

pub texts_of-requires : goal.texts_of-requires
texts_of-requires c =
    (found c.args.text.now c.deref.result.now _ _ _ c.requires (ap texts c.deref.ensures.value ∙ c.in_ok-parts.ensures) c.split_version.ensures).are_names

pub version-requires : goal.version-requires
version-requires c =
    (found c.args.text.now c.deref.result.now _ _ _ c.requires (ap texts c.deref.ensures.value ∙ c.in_ok-parts.ensures) c.split_version.ensures).is_major

pub version-requires-2 : goal.version-requires-2
version-requires-2 c =
    (found c.args.text.now c.deref.result.now _ _ _ c.requires (ap texts c.deref.ensures.value ∙ c.in_ok-parts.ensures) c.split_version.ensures).is_minor

pub returns : goal.returns
returns c =
    (found c.args.text.now c.deref.result.now _ _ _ c.requires (ap texts c.deref.ensures.value ∙ c.in_ok-parts.ensures) c.split_version.ensures).is_read
    ∙ rw (c.in_ok-texts_of.ensures, c.version.ensures, c.version-2.ensures) refl
