mod MemberLemmas
