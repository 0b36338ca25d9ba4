mod Choices
